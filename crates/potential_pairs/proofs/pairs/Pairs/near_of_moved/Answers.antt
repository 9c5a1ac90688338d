use Rattle.std.proofs.Common.{◌≡◌, ◌∙◌, ◌<◌, ◌||◌, ℕ, Bool, List, length, take, filter, get_or, sym, ap, arith}
use Rattle.std.proofs.lemmas.List.Sums.{sum_by_more, sum_by_more_le, sum_by-take-le}
use Rattle.relation_groups.specs.declared.moves.Move.{Move}
use Rattle.potential_pairs.specs.Planning.{has_file}
use Rattle.potential_pairs.specs.Potential.{KeptPairs, Row}
use Rattle.potential_pairs.proofs.ReadRows.{counts-touched}
use Rattle.potential_pairs.proofs.Touched.{has_moved, none_chosen, touched-more}
use Rattle.potential_pairs.proofs.pairs.Pairs.near_of_moved.Goals as goal

abbrev no_move : Move
no_move = record { file = record { 0 = 0 }; king = record { 0 = 0 }; class = record { 0 = 0 } }

pub loop-moved-init : goal.loop-moved-init
loop-moved-init g c = record {
  rows = c.new-pairs.ensures.rows ∙ none_chosen c.args.self.now.rows.near;
  reads = omega arith;
}

pub loop-moved-preserved : goal.loop-moved-preserved
loop-moved-preserved g c =
    let moves : List Move = c.args.moves.now in
    let i = c.loop-moved.moved-index in
    let near : List Row = c.args.self.now.rows.near in
    let inside : List Row = c.self.inside.near.rows in
    let here : inside ≡ near = ap (λ (kept : KeptPairs). kept.rows.near) c.self.view_is in
    let within : i < length moves = omega (arith, c.loop-moved-test.true, ap length c.as_slice-moved-items.ensures) in
    let test : ℕ × ℕ → Bool = has_moved (take i moves) in
    let file = ap (λ (list : List Move). (get_or list i no_move).file.0) c.as_slice-moved-items.ensures in
    let before = c.loop-moved.invariant.rows ∙ ap (λ (list : List Row). filter (λ (row : Row). test row.0) list) (sym here) in
    let added = c.in_ok-add_of_file.ensures.rows test before in
    let same : length (filter (λ (row : Row). has_file (get_or c.as_slice-moved-items.result.now i no_move).file.0 row.0) inside) ≡ length (filter (λ (row : Row). has_file (get_or moves i no_move).file.0 row.0) near) = λ k. length (filter (λ (row : Row). has_file (file k) row.0) (here k)) in
    let more = sum_by_more (λ (m : Move). length (filter (λ (row : Row). has_file m.file.0 row.0) near)) moves i no_move within in
    record {
      rows = added ∙ (λ k. filter (λ (row : Row). test row.0 || has_file (file k) row.0) (here k)) ∙ touched-more moves i no_move near within;
      reads = omega (arith, c.loop-moved.invariant.reads, c.add_of_file.ensures.reads, same, more);
    }

pub returns-in_err-add_of_file-clause-reads : goal.returns-in_err-add_of_file-clause-reads
returns-in_err-add_of_file-clause-reads g c =
    let moves : List Move = c.args.moves.now in
    let i = c.loop-moved.moved-index in
    let near : List Row = c.args.self.now.rows.near in
    let inside : List Row = c.self.inside.near.rows in
    let here : inside ≡ near = ap (λ (kept : KeptPairs). kept.rows.near) c.self.view_is in
    let within : i < length moves = omega (arith, c.loop-moved-test.true, ap length c.as_slice-moved-items.ensures) in
    let file = ap (λ (list : List Move). (get_or list i no_move).file.0) c.as_slice-moved-items.ensures in
    let same : length (filter (λ (row : Row). has_file (get_or c.as_slice-moved-items.result.now i no_move).file.0 row.0) inside) ≡ length (filter (λ (row : Row). has_file (get_or moves i no_move).file.0 row.0) near) = λ k. length (filter (λ (row : Row). has_file (file k) row.0) (here k)) in
    let more = sum_by_more_le (λ (m : Move). length (filter (λ (row : Row). has_file m.file.0 row.0) near)) moves i no_move within in
    omega (arith, within, c.loop-moved.invariant.reads, c.add_of_file.ensures.reads, same, more, counts-touched near moves c.requires)

pub returns-clause-reads : goal.returns-clause-reads
returns-clause-reads g c =
    let moves : List Move = c.args.moves.now in
    let i = c.loop-moved.moved-index in
    let near : List Row = c.args.self.now.rows.near in
    let all = sum_by-take-le (λ (m : Move). length (filter (λ (row : Row). has_file m.file.0 row.0) near)) moves i in
    omega (arith, c.loop-moved.invariant.reads, c.loop-moved.auto.moved-index-end, ap length c.as_slice-moved-items.ensures, all, counts-touched near moves c.requires)

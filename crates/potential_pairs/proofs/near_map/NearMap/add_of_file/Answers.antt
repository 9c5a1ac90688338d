use Rattle.std.proofs.Common.{◌≡◌, ◌∙◌, ◌==◌, ◌||◌, Some, ap, sym, filter, length, List, arith}
use Rattle.potential_pairs.specs.Keeping.{turned}
use Rattle.potential_pairs.specs.Planning.{has_file, with_changes}
use Rattle.potential_pairs.specs.Potential.{Row}
use Rattle.spare_tables.specs.Table.{Table}
use Rattle.potential_pairs.proofs.Clauses.{on_ok}
use Rattle.potential_pairs.proofs.OneFile.{file-added}
use Rattle.potential_pairs.proofs.ReadRows.{higher_few, lower_few}
use Rattle.potential_pairs.proofs.near_map.NearMap.add_of_file.Goals as goal

pub returns-clause-rows : goal.returns-clause-rows
returns-clause-rows g c = on_ok c.insert_walked_turned.result (λ added test some.
    let near : List Row = c.self.inside.lower_first.rows in
    let others : List Row = c.self.inside.higher_first.rows in
    let file = c.args.file.0 in
    let here : c.args.self.now.rows ≡ near = sym (ap (λ (table : Table Row). table.rows) c.self.view_is) in
    let made = c.in_ok-insert_walked.ensures.rows ∙ ap (λ (rows : List Row). with_changes Some rows c.args.pairs.now.rows) c.walk_first-lower.ensures.rows in
    added ∙ (λ i. with_changes Some (turned (c.walk_first-higher.ensures.rows i)) (made i))
    ∙ file-added near others c.args.pairs.now.rows file test c.self.invariant (some ∙ ap (λ (list : List Row). filter (λ (row : Row). test row.0) list) here)
    ∙ ap (λ (list : List Row). filter (λ (row : Row). test row.0 || has_file file row.0) list) (sym here)) c.insert_walked_turned.ensures.rows

pub returns-in_err-insert_walked-clause-reads : goal.returns-in_err-insert_walked-clause-reads
returns-in_err-insert_walked-clause-reads g c =
    let near : List Row = c.self.inside.lower_first.rows in
    let file = c.args.file.0 in
    let same = ap (λ (table : Table Row). length (filter (λ (row : Row). has_file file row.0) table.rows)) c.self.view_is in
    omega (arith, same, lower_few near file, ap length c.walk_first-lower.ensures.rows, c.walk_first-lower.ensures.steps, c.insert_walked.ensures.reads)

pub returns-clause-reads : goal.returns-clause-reads
returns-clause-reads g c =
    let near : List Row = c.self.inside.lower_first.rows in
    let others : List Row = c.self.inside.higher_first.rows in
    let file = c.args.file.0 in
    let same = ap (λ (table : Table Row). length (filter (λ (row : Row). has_file file row.0) table.rows)) c.self.view_is in
    omega (
      arith,
      same,
      lower_few near file,
      higher_few near others file c.self.invariant,
      ap length c.walk_first-lower.ensures.rows,
      ap length c.walk_first-higher.ensures.rows,
      c.walk_first-lower.ensures.steps,
      c.walk_first-higher.ensures.steps,
      c.insert_walked.ensures.reads,
      c.insert_walked_turned.ensures.reads,
    )

use Rattle.std.proofs.Common.{◌∙◌, false, List, length, filter, ap, arith}
use Rattle.std.specs.Result.{IfOk}
use Rattle.potential_pairs.specs.Planning.{has_file}
use Rattle.potential_pairs.specs.Potential.{KeptPairs, Row}
use Rattle.potential_pairs.proofs.Clauses.{if_ok}
use Rattle.potential_pairs.proofs.Touched.{none_chosen}
use Rattle.potential_pairs.proofs.pairs.Pairs.near_of_file.Goals as goal

pub returns-clause-rows : goal.returns-clause-rows
returns-clause-rows g c =
    let here = ap (λ (kept : KeptPairs). kept.rows.near) c.self.view_is in
    let rows = c.in_ok-add_of_file.ensures.rows (λ _. false) (c.new-pairs.ensures.rows ∙ none_chosen c.self.inside.near.rows)
    ∙ ap (λ (near : List Row). filter (λ (row : Row). has_file c.args.file.0 row.0) near) here in
    if_ok c.into_vec.result (λ list are. are ∙ rows) c.into_vec.ensures

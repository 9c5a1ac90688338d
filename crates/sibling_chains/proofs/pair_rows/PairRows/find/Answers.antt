use Rattle.std.proofs.Common.{◌∙◌, List, get_or, Some, sym, ap}
use Rattle.std.specs.Option.{option_map}
use Rattle.sibling_chains.specs.declared.relation_row.RelationRow.{RelationRow}
use Rattle.sibling_chains.specs.Recorded.{no_row}
use Rattle.sibling_chains.specs.RowLaws.{row-there}
use Rattle.sibling_chains.proofs.Places.{standing-good, standing-within}
use Rattle.sibling_chains.proofs.pair_rows.PairRows.find.Goals as goal

pub row-requires : goal.row-requires
row-requires g c =
    (standing-within c.args.service.0 c.args.bad.0 c.args.self.now.rows c.in-Some.at (sym c.in-Some.ensures.place)).0

pub returns-in-Some-clause-good : goal.returns-in-Some-clause-good
returns-in-Some-clause-good g c =
    let rows : List RelationRow = c.args.self.now.rows in
    ap (λ (row : RelationRow). Some row.second.0) (sym (row-there rows c.in-Some.at c.row.result c.row.ensures.row))
    ∙ ap (option_map (λ n. (get_or rows n no_row).second.0)) c.in-Some.ensures.place
    ∙ sym (standing-good c.args.service c.args.bad.0 rows)

pub returns-in-None-clause-good : goal.returns-in-None-clause-good
returns-in-None-clause-good g c =
    let rows : List RelationRow = c.args.self.now.rows in
    ap (option_map (λ n. (get_or rows n no_row).second.0)) c.in-None.ensures.place
    ∙ sym (standing-good c.args.service c.args.bad.0 rows)

use Rattle.std.proofs.Common.{◌≡◌, ◌∙◌, Option, ℕ, List, get_or, sym, ap, rules}
use Rattle.sibling_chains.specs.declared.relation_row.RelationRow.{RelationRow}
use Rattle.sibling_chains.specs.Clustered.{rows_but}
use Rattle.sibling_chains.specs.Recorded.{no_row, removed, removed_at}
use Rattle.sibling_chains.specs.RowLaws.{get-removed-other, get-removed-this, row-there}
use Rattle.parent_closure.proofs.parents.Parents.row_but.Goals as goal

pub returns-in-Some-clause-row : goal.returns-in-Some-clause-row
returns-in-Some-clause-row g c =
    let rows : List RelationRow = c.args.self.now.rows in
    let at = c.args.at in
    let here : c.in-Some.number ≡ at = search rules in
    let row : get_or rows at no_row ≡ c.row-row.result = row-there rows at c.row-row.result (search rules) in
    ap removed (sym row) ∙ sym (get-removed-this at rows c.requires) ∙ ap (λ n. get_or (removed_at n rows) at no_row) (sym here)
    ∙ ap (λ (o : Option ℕ). get_or (rows_but o rows) at no_row) (sym c.in-Some.is)

pub returns-in_default-clause-row : goal.returns-in_default-clause-row
returns-in_default-clause-row g c =
    let rows : List RelationRow = c.args.self.now.rows in
    let at = c.args.at in
    let row : get_or rows at no_row ≡ c.row-row.result = row-there rows at c.row-row.result (search rules) in
    sym row ∙ sym (get-removed-other c.in-Some.number at rows c.if-number-at.false)
    ∙ ap (λ (o : Option ℕ). get_or (rows_but o rows) at no_row) (sym c.in-Some.is)

pub returns-in_default-2-clause-row : goal.returns-in_default-2-clause-row
returns-in_default-2-clause-row g c =
    let rows : List RelationRow = c.args.self.now.rows in
    let at = c.args.at in
    let row : get_or rows at no_row ≡ c.row-row.result = row-there rows at c.row-row.result (search rules) in
    sym row ∙ ap (λ (o : Option ℕ). get_or (rows_but o rows) at no_row) (sym c.in_default.is)

use Rattle.std.proofs.Common.{◌≡◌, ◌∙◌, ℕ, Bor, List, [], map, get_or, ap, arith}
use Rattle.std.specs.List.{flat_map, list_any}
use Rattle.std.specs.Option.{option_map}
use Rattle.std.proofs.lemmas.List.{take_all}
use Rattle.media_types.specs.declared.numbers.ServiceNo.{ServiceNo}
use Rattle.sibling_chains.specs.declared.relation_row.RelationRow.{RelationRow}
use Rattle.sibling_chains.specs.declared.sibling_plan.SiblingPlan.{SiblingPlan}
use Rattle.sibling_chains.specs.Clusters.{rows_within}
use Rattle.sibling_chains.specs.Known.{Known, ideal_in}
use Rattle.sibling_chains.specs.Recorded.{pairs_in}
use Rattle.parent_closure.specs.declared.parent_plan.ParentPlan.{ParentPlan}
use Rattle.parent_closure.specs.Ancestors.{between_ideals}
use Rattle.parent_closure.specs.Implied.{chained, planned, steps_by}
use Rattle.parent_closure.specs.CountLaws.{cluster-rows}
use Rattle.parent_closure.specs.Kept.{Kept}
use Rattle.parent_closure.specs.Reached.{has}
use Rattle.parent_closure.proofs.Gathering.{between-same}
use Rattle.parent_closure.proofs.Steps.{steps-all}
use Rattle.parent_closure.proofs.parents.Parents.pairs_among.Goals as goal

pub returns-clause-pairs : goal.returns-clause-pairs
returns-clause-pairs g c = λ test.
    let v : Kept = planned (option_map (λ (p : Bor ParentPlan). p.now) c.args.plan) c.args.self.now in
    let w : Known = chained (option_map (λ (p : Bor SiblingPlan). p.now) c.args.chains) c.args.siblings.now in
    let s : ℕ = c.args.service.0 in
    let tags = c.args.tags.now in
    let rows : List RelationRow = c.in_ok-rows.rows.items in
    let items : List ServiceNo = c.as_slice-of-items.result.now in
    let order : items ≡ get_or v.orders s [] = c.as_slice-of-items.ensures ∙ c.order_after-order.ensures in
    let steps =
    c.loop-of.invariant
    ∙ ap (flat_map (steps_by w s rows)) (take_all c.loop-of.of-index items (omega (arith, c.loop-of-test.false)))
    ∙ steps-all w s rows items
    ∙ ap (λ (o : List ServiceNo). map (between_ideals (ideal_in w s)) (pairs_in o rows)) order in
    ap (list_any test) steps ∙ between-same (ideal_in w s) rows (rows_within (has tags) v.rows) c.in_ok-rows.ensures.rows (get_or v.orders s []) test

pub returns-in_err-rows-clause-reads : goal.returns-in_err-rows-clause-reads
returns-in_err-rows-clause-reads g c =
    let rows = cluster-rows c.args.self.now.rows c.args.tags.now c.requires.different in
    omega (arith, rows, c.rows_among.ensures.reads)

pub returns-in_err-put_steps-clause-reads : goal.returns-in_err-put_steps-clause-reads
returns-in_err-put_steps-clause-reads g c =
    let rows = cluster-rows c.args.self.now.rows c.args.tags.now c.requires.different in
    omega (arith, rows, c.rows_among.ensures.reads)

pub returns-clause-reads : goal.returns-clause-reads
returns-clause-reads g c =
    let rows = cluster-rows c.args.self.now.rows c.args.tags.now c.requires.different in
    omega (arith, rows, c.rows_among.ensures.reads)

use Rattle.std.proofs.Common.{◌≡◌, ◌∙◌, ◌++◌, Option, Bor, ap, rules}
use Rattle.std.specs.List.{flat_map, list_any}
use Rattle.std.specs.Option.{option_map}
use Rattle.sibling_chains.specs.Clustered.{rows_but}
use Rattle.sibling_chains.specs.Clusters.{rows_within}
use Rattle.parent_closure.specs.declared.parent_plan.ParentPlan.{ParentPlan}
use Rattle.parent_closure.specs.Implied.{added_by, gone_by}
use Rattle.parent_closure.specs.Kept.{rows_of, rows_with}
use Rattle.parent_closure.specs.Reached.{has}
use Rattle.parent_closure.proofs.Gathering.{planned-within}
use Rattle.parent_closure.proofs.parents.Parents.rows_among.Goals as goal

pub returns-clause-rows : goal.returns-clause-rows
returns-clause-rows g c = λ test.
    let plan : Option ParentPlan = option_map (λ (p : Bor ParentPlan). p.now) c.args.plan in
    let tags = c.args.tags.now in
    let rows = c.args.self.now.rows in
    let list : c.push_among.new.rows.items ≡ flat_map (rows_of (rows_but (gone_by plan) rows)) tags ++ rows_within (has tags) (rows_with (added_by plan)) = search rules in
    ap (list_any test) list ∙ planned-within plan c.args.self.now tags test

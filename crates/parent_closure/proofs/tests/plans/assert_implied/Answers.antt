use Rattle.std.proofs.Common.{Bor}
use Rattle.std.specs.Option.{option_map}
use Rattle.sibling_chains.specs.declared.sibling_plan.SiblingPlan.{SiblingPlan}
use Rattle.parent_closure.specs.declared.parent_plan.ParentPlan.{ParentPlan}
use Rattle.parent_closure.specs.Implied.{chained, planned, relations_of}
use Rattle.parent_closure.proofs.AllTags.{closed-read}
use Rattle.parent_closure.proofs.tests.plans.assert_implied.Goals as goal

pub implied_after-requires-clause-closed : goal.implied_after-requires-clause-closed
implied_after-requires-clause-closed g c =
    let v = planned (option_map (λ (p : Bor ParentPlan). p.now) c.args.plan) c.args.parents.now in
    let w = chained (option_map (λ (p : Bor SiblingPlan). p.now) c.args.chains) c.args.siblings.now in
    closed-read c.as_slice.result.now c.in_ok-tags.tags.items (relations_of v w 0) c.as_slice.ensures.value (c.in_ok-tags.ensures.closed 0)

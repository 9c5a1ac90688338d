use Rattle.std.proofs.Common.{◌∙◌, ℕ, List, subst, sym}
use Rattle.std.specs.List.{range_with_len}
use Rattle.parent_closure.specs.CountLaws.{AreDifferent}
use Rattle.parent_closure.specs.LimitLaws.{AreBelow}
use Rattle.parent_closure.specs.Reached.{has}
use Rattle.parent_closure.specs.Sets.{IsClosedFor}
use Rattle.tag_relations.specs.Planning.{after_orders}
use Rattle.tag_relations.specs.Related.{Related, relations_at}
use Rattle.tag_relations.proofs.Walking.{range-closed, range-different}
use Rattle.tag_relations.proofs.relations.TagRelations.first_over_in_order.Goals as goal

pub first_over-requires-clause-different : goal.first_over-requires-clause-different
first_over-requires-clause-different g c = subst AreDifferent (sym (c.as_slice.ensures.value ∙ c.in_ok-tags.ensures)) (range-different c.args.end)

pub first_over-requires-clause-closed : goal.first_over-requires-clause-closed
first_over-requires-clause-closed g c =
    let o : Related = record { siblings = c.self.inside.siblings; parents = c.self.inside.parents } in
    let plan = c.args.plan.now in
    let siblings : AreBelow c.args.end (after_orders plan c.args.self.now).siblings.rows = subst (AreBelow c.args.end) (sym c.requires.fits.sibling_rows) c.requires.siblings in
    let parents : AreBelow c.args.end (after_orders plan c.args.self.now).parents.rows = subst (AreBelow c.args.end) (sym c.requires.fits.parent_rows) c.requires.parents in
    let closed : IsClosedFor (has (range_with_len 0 c.args.end)) (relations_at (after_orders plan c.args.self.now) plan.service.0) =
    range-closed c.args.end (relations_at (after_orders plan c.args.self.now) plan.service.0) siblings parents in
    let tags = sym (c.as_slice.ensures.value ∙ c.in_ok-tags.ensures) in
    subst (λ (list : List ℕ). IsClosedFor (has list) (relations_at (after_orders plan o) plan.service.0)) tags
    (subst (λ (v : Related). IsClosedFor (has (range_with_len 0 c.args.end)) (relations_at (after_orders plan v) plan.service.0)) (sym c.self.view_is) closed)

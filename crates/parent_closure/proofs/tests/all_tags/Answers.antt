use Rattle.std.proofs.Common.{◌≡◌, ◌∙◌, ℕ, List, Bor, sym, subst, ap, rules}
use Rattle.std.specs.List.{range_with_len}
use Rattle.std.specs.Option.{option_map}
use Rattle.sibling_chains.specs.declared.sibling_plan.SiblingPlan.{SiblingPlan}
use Rattle.parent_closure.specs.declared.parent_plan.ParentPlan.{ParentPlan}
use Rattle.parent_closure.specs.CountLaws.{AreDifferent}
use Rattle.parent_closure.specs.Implied.{chained, planned, relations_of}
use Rattle.parent_closure.specs.Reached.{has}
use Rattle.parent_closure.specs.Sets.{IsClosedFor}
use Rattle.parent_closure.proofs.AllTags.{all-closed, all-different, has-below}
use Rattle.parent_closure.proofs.tests.all_tags.Goals as goal

pub returns-clause-different : goal.returns-clause-different
returns-clause-different g c = subst AreDifferent (sym c.in_ok-list.ensures) (all-different c.tags-end.result)

pub returns-clause-here : goal.returns-clause-here
returns-clause-here g c = λ t lt.
    let listed : c.in_ok-list.list.items ≡ range_with_len 0 c.args.parents.now.tags = c.in_ok-list.ensures ∙ ap (range_with_len 0) c.tags-end.ensures.tags in
    ap (λ (l : List ℕ). has l t) listed ∙ has-below c.args.parents.now.tags t lt

pub returns-clause-closed : goal.returns-clause-closed
returns-clause-closed g c = λ s.
    let v = c.args.parents.now in
    let w = c.args.siblings.now in
    let listed : c.in_ok-list.list.items ≡ range_with_len 0 v.tags = c.in_ok-list.ensures ∙ ap (range_with_len 0) c.tags-end.ensures.tags in
    let both : c.tags-end.result ≡ c.tags-other.result = search rules in
    let same : v.tags ≡ w.tags = sym c.tags-end.ensures.tags ∙ both ∙ c.tags-other.ensures.tags in
    subst (λ (l : List ℕ). IsClosedFor (has l)
    (relations_of (planned (option_map (λ (p : Bor ParentPlan). p.now) c.args.plan) v) (chained (option_map (λ (p : Bor SiblingPlan). p.now) c.args.chains) w) s))
    (sym listed) (all-closed c.args.plan v c.args.chains w s c.requires.plan c.requires.chains c.tags-end.ensures.known c.tags-other.ensures.known same)

use Rattle.std.proofs.Common.{◌≡◌, ◌∙◌, ◌+◌, [], true, None, ap, sym, subst}
use Rattle.display_cache.specs.Displayed.{DisplayView, IsOf, KeptDisplay, PlanView, after}
use Rattle.display_cache.proofs.Plans.{displayed, tag-after}
use Rattle.display_cache.proofs.display.Display.plan_tag.Goals as goal

pub returns-clause-after : goal.returns-clause-after
returns-clause-after c = λ n m mappings is unmapped.
    let it = c.self.inside in
    let v : DisplayView = displayed it.tables it.rows it.lists.rows it.gone.rows in
    let seen : v ≡ c.args.self.now.shown = ap (λ (kept : KeptDisplay). kept.shown) c.self.view_is in
    let empty : PlanView = record { cache = record { supports = []; counts = []; rows = it.rows }; new_tag = true; live = None } in
    let plan : c.new-plan.result ≡ empty = c.new-plan.ensures
    ∙ (λ i. record { cache = record { supports = c.new.ensures.items i; counts = c.new-2.ensures.items i; rows = it.rows }; new_tag = true; live = None }) in
    subst (λ (w : DisplayView). IsOf (n + 1) m mappings (after c.new-plan.result w)) seen
    (subst (λ (p : PlanView). IsOf (n + 1) m mappings (after p v)) (sym plan)
    (tag-after it.tables it.rows it.lists.rows it.gone.rows n m mappings (subst (IsOf n m mappings) (sym seen) is) unmapped))

pub returns-clause-lists : goal.returns-clause-lists
unfolding after
returns-clause-lists c = ap (λ (p : PlanView). (after p c.args.self.now.shown).lists) c.new-plan.ensures

pub returns-clause-gone : goal.returns-clause-gone
unfolding after
returns-clause-gone c = ap (λ (p : PlanView). (after p c.args.self.now.shown).gone) c.new-plan.ensures

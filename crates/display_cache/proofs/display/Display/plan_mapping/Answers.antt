use Rattle.std.proofs.Common.{◌≡◌, ◌∙◌, ℕ, ap, sym, subst}
use Rattle.tag_store.specs.Mapped.{with_state}
use Rattle.display_cache.specs.Cache.{Support, unit_of}
use Rattle.display_cache.specs.Displayed.{DisplayView, IsOf, KeptDisplay, PlanView, after}
use Rattle.display_cache.specs.Placing.{IsPlaced}
use Rattle.display_cache.specs.Recorded.{applied, is_live}
use Rattle.display_cache.proofs.Plans.{IsMappingPlan, displayed, mapping-after}
use Rattle.display_cache.proofs.display.Display.plan_mapping.Goals as goal

pub returns-clause-after : goal.returns-clause-after
returns-clause-after g c = λ n m mappings is sorted ht hf has.
    let it = c.self.inside in
    let v : DisplayView = displayed it.tables it.rows it.lists.rows it.gone.rows in
    let seen : v ≡ c.args.self.now.shown = ap (λ (kept : KeptDisplay). kept.shown) c.self.view_is in
    let s : ℕ = c.args.s.0 in
    let t : ℕ = c.args.t.0 in
    let f : ℕ = c.args.f.0 in
    let list = c.list_in_force-list.result.now in
    let plan : IsMappingPlan it.tables it.rows it.lists.rows it.gone.rows s t f c.args.was c.args.now c.new-draft.result c.plan_place.new.draft = record {
      order = record {
        supports = c.finish.ensures.supports_sorted;
        counts = c.finish.ensures.counts_sorted;
        old_supports = c.in_order.ensures.supports;
        old_counts = c.in_order.ensures.counts;
      };
      supports = c.new-draft.ensures.supports;
      counts = c.new-draft.ensures.counts;
      same_rows = c.new-draft.ensures.rows;
      service = c.requires.service;
      live = c.is_live-live.result;
      live_is = c.is_live-live.ensures.live ∙ ap (λ (w : DisplayView). is_live w.gone f) (sym seen);
      list = list;
      list_is = c.list_in_force-list.ensures.list ∙ ap (λ a. applied c.args.self.now.shown.lists a t) c.from.ensures
          ∙ ap (λ (w : DisplayView). applied w.lists s t) (sym seen);
      keeps = λ W V place kept. c.in_ok-plan_place.ensures.keeps W V
          (subst (λ a. IsPlaced W V a t f c.is_live-live.result c.unit_of-was.result c.unit_of-now.result list list) (sym c.from-2.ensures)
          (subst (λ (u : Support). IsPlaced W V s t f c.is_live-live.result u c.unit_of-now.result list list) (sym c.unit_of-was.ensures)
          (subst (λ (u : Support). IsPlaced W V s t f c.is_live-live.result (unit_of c.args.was) u list list) (sym c.unit_of-now.ensures) place))) kept;
    } in
    subst (λ (w : DisplayView). IsOf n m (with_state mappings s t f c.args.now) (after c.in_ok-plan.plan w)) seen
    (subst (λ (p : PlanView). IsOf n m (with_state mappings s t f c.args.now) (after p v)) (sym c.in_ok-plan.ensures.plan)
    (mapping-after it.tables it.rows it.lists.rows it.gone.rows s t f c.args.was c.args.now c.new-draft.result c.plan_place.new.draft plan n m mappings
    (subst (IsOf n m mappings) (sym seen) is) sorted ht hf has))

pub returns-clause-lists : goal.returns-clause-lists
unfolding after
returns-clause-lists g c = ap (λ (p : PlanView). (after p c.args.self.now.shown).lists) c.in_ok-plan.ensures.plan

pub returns-clause-gone : goal.returns-clause-gone
unfolding after
returns-clause-gone g c = ap (λ (p : PlanView). (after p c.args.self.now.shown).gone) c.in_ok-plan.ensures.plan

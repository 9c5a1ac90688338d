use Rattle.std.proofs.Common.{◌∙◌, Some, List, sym, ap, subst}
use Rattle.relation_groups.specs.Reading.{relations_in}
use Rattle.relation_groups.specs.Relations.{Relations}
use Rattle.potential_pairs.specs.Naming.{AreCounted, count_named, live_name}
use Rattle.potential_pairs.specs.Planning.{PlanView, after, with_live}
use Rattle.potential_pairs.specs.Potential.{AreOf, PairsView, Row}
use Rattle.potential_pairs.proofs.PlannedRows.{after-live, after-near, counted-after, counts-nothing, of-after, planned_count-kept}
use Rattle.potential_pairs.proofs.pairs.Pairs.plan_live.Goals as goal

pub plan_live_pairs-requires-clause-counts : goal.plan_live_pairs-requires-clause-counts
plan_live_pairs-requires-clause-counts g c =
    counts-nothing (relations_in c.args.groups.now) c.new-plan.result c.args.self.now.rows c.new-plan.ensures.near c.new-plan.ensures.tallies c.new-plan.ensures.live c.requires.of

pub returns-clause-near : goal.returns-clause-near
returns-clause-near g c =
    ap (λ (p : PlanView). (after p c.reserve_for.new.self.rows).near) c.in_ok-plan.ensures ∙ after-near c.set_live.new.self c.reserve_for.new.self.rows (c.set_live.ensures.near ∙ c.plan_live_pairs.ensures.near ∙ c.new-plan.ensures.near) ∙ ap (λ (rows : PairsView). rows.near) c.reserve_for.ensures.rows

pub returns-clause-gone : goal.returns-clause-gone
returns-clause-gone g c =
    ap (λ (p : PlanView). (after p c.reserve_for.new.self.rows).gone) c.in_ok-plan.ensures ∙ after-live c.set_live.new.self c.reserve_for.new.self.rows (Some (c.args.file, c.args.live)) c.set_live.ensures.live ∙ ap (λ (rows : PairsView). with_live (Some (c.args.file, c.args.live)) rows.gone) c.reserve_for.ensures.rows

pub returns-clause-of_after : goal.returns-clause-of_after
returns-clause-of_after g c =
    let R : Relations = relations_in c.args.groups.now in
    let rows : PairsView = c.args.self.now.rows in
    let plan : PlanView = c.plan_live_pairs.new.plan in
    let whole : PlanView = c.set_live.new.self in
    let gone = with_live (Some (c.args.file, c.args.live)) rows.gone in
    let none = c.set_live.ensures.near ∙ c.plan_live_pairs.ensures.near ∙ c.new-plan.ensures.near in
    let counted : AreCounted (live_name R gone) (after whole rows) = counted-after (live_name R gone) whole rows (λ name d.
    planned_count-kept plan whole rows c.set_live.ensures.tallies name d ∙ c.in_ok-plan_live_pairs.ensures.counts name d ∙ ap (λ (near : List Row). count_named (live_name R gone) near name d) (sym (after-near whole rows none))) in
    subst (λ (p : PlanView). AreOf R (after p c.reserve_for.new.self.rows)) (sym c.in_ok-plan.ensures)
    (subst (λ (r : PairsView). AreOf R (after whole r)) (sym c.reserve_for.ensures.rows)
    (of-after R whole rows (Some (c.args.file, c.args.live)) c.set_live.ensures.live c.in_order.ensures.kept counted))

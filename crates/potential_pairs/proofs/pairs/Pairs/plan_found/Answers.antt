use Rattle.std.proofs.Common.{None, ◌≡◌, ◌∙◌, ◌<◌, length, take, get_or, sym, ap, subst, arith}
use Rattle.std.specs.BTreeMap.{insert_entry}
use Rattle.std.proofs.lemmas.List.{get_or_default, take_more}
use Rattle.spare_tables.specs.Order.{pair_cmp}
use Rattle.relation_groups.specs.Reading.{relations_in, size_of}
use Rattle.relation_groups.specs.Relations.{Relations}
use Rattle.potential_pairs.specs.Naming.{AreCounted, live_name}
use Rattle.potential_pairs.specs.Planning.{Found, PlanView, after, with_found}
use Rattle.potential_pairs.specs.Potential.{AreOf, PairsView}
use Rattle.potential_pairs.proofs.Between.{counted-of}
use Rattle.potential_pairs.proofs.PlannedRows.{after-live, after-nothing, found-same, of-after}
use Rattle.potential_pairs.proofs.Rows.{name_in, with_found_push}
use Rattle.potential_pairs.proofs.pairs.Pairs.plan_found.Goals as goal

abbrev no_pair : Found
no_pair = (record { 0 = 0 }, record { 0 = 0 }, 0)

pub plan_near-requires-clause-same : goal.plan_near-requires-clause-same
plan_near-requires-clause-same g c = rw (c.as_slice-f-items.ensures, c.loop-f.invariant.near)
    (λ d has.
    let found = c.args.found.now in
    let i = c.loop-f.f-index in
    let within : i < length found = omega (arith, c.loop-f-test.true, ap length c.as_slice-f-items.ensures) in
    let this = get_or found i no_pair in
    found-same (size_of c.args.groups.now) c.args.self.now.rows.near found i i this c.requires.found within (get_or_default found i no_pair this within) d has)

pub loop-f-init : goal.loop-f-init
loop-f-init g c =
    let rows = c.args.self.now.rows in
    let nothing : after c.new-plan.result rows ≡ rows = after-nothing c.new-plan.result rows c.new-plan.ensures.near c.new-plan.ensures.tallies c.new-plan.ensures.live in
    let near = ap (λ (r : PairsView). r.near) nothing in
    record {
      counted = subst (λ (r : PairsView). AreCounted (live_name (relations_in c.args.groups.now) rows.gone) r) (sym nothing) (counted-of (relations_in c.args.groups.now) rows c.requires.of);
      near = near;
      more = omega (arith, ap length near, ap length c.new-plan.ensures.near);
      live = c.new-plan.ensures.live;
      reads = omega arith;
    }

pub loop-f-preserved : goal.loop-f-preserved
loop-f-preserved g c =
    let found = c.args.found.now in
    let near = c.args.self.now.rows.near in
    let i = c.loop-f.f-index in
    let before = c.loop-f.invariant in
    let within : i < length found = omega (arith, c.loop-f-test.true, ap length c.as_slice-f-items.ensures) in
    let this = get_or found i no_pair in
    let added : (after c.plan_near.new.plan c.args.self.now.rows).near ≡ insert_entry pair_cmp (after c.loop-f.plan c.args.self.now.rows).near (name_in this) this.2 =
    rw c.as_slice-f-items.ensures at c.in_ok-plan_near.ensures.near in
    record {
      counted = c.in_ok-plan_near.ensures.counted;
      near = added ∙ ap (λ rows. insert_entry pair_cmp rows (name_in this) this.2) before.near ∙ sym (with_found_push (take i found) this near)
          ∙ ap (λ list. with_found list near) (sym (take_more found i no_pair within));
      more = omega (arith, before.more, c.in_ok-plan_near.ensures.more);
      live = c.plan_near.ensures.live ∙ before.live;
      reads = omega (arith, before.reads, c.plan_near.ensures.reads);
    }

pub returns-clause-gone : goal.returns-clause-gone
returns-clause-gone g c =
    ap (λ (p : PlanView). (after p c.reserve_for.new.self.rows).gone) c.in_ok-plan.ensures ∙ after-live c.loop-f.plan c.reserve_for.new.self.rows None c.loop-f.invariant.live ∙ ap (λ (rows : PairsView). rows.gone) c.reserve_for.ensures.rows

pub returns-clause-of_after : goal.returns-clause-of_after
returns-clause-of_after g c =
    let R : Relations = relations_in c.args.groups.now in
    let plan : PlanView = c.loop-f.plan in
    subst (λ (p : PlanView). AreOf R (after p c.reserve_for.new.self.rows)) (sym c.in_ok-plan.ensures)
    (subst (λ (rows : PairsView). AreOf R (after plan rows)) (sym c.reserve_for.ensures.rows) (of-after R plan c.args.self.now.rows None c.loop-f.invariant.live c.in_order.ensures.kept c.loop-f.invariant.counted))

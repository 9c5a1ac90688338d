use Rattle.std.proofs.Common.{None, ◌≡◌, ◌∙◌, ◌<◌, ◌+◌, ◌-◌, ℕ, Some, false, List, length, get_or, sym, ap, subst, arith}
use Rattle.std.proofs.lemmas.List.Elements.{All-filter}
use Rattle.spare_tables.specs.Keys.{value_of}
use Rattle.spare_tables.specs.Order.{pair_cmp}
use Rattle.relation_groups.specs.NamedLaws.{reading-named}
use Rattle.relation_groups.specs.Laws.{AreNamed}
use Rattle.relation_groups.specs.Reading.{relations_after, relations_in, size_of}
use Rattle.relation_groups.specs.Relations.{Relations}
use Rattle.relation_groups.specs.declared.moves.Move.{Move}
use Rattle.potential_pairs.specs.Levels.{IsDistance}
use Rattle.potential_pairs.specs.Naming.{AreCounted, count_named, live_name, weight}
use Rattle.potential_pairs.specs.Planning.{AscendByFile, PlanView, after, touched}
use Rattle.potential_pairs.specs.Potential.{AreOf, PairsView, Row}
use Rattle.potential_pairs.proofs.InStep.{value-within}
use Rattle.potential_pairs.proofs.PlannedRows.{after-live, after-near, counted-after, counts-nothing, of-after}
use Rattle.potential_pairs.proofs.ReadRows.{moves_ascend}
use Rattle.potential_pairs.proofs.Renaming.{Name, chosen_value, waiting-all, waiting-more, waiting-none}
use Rattle.potential_pairs.proofs.Touched.{below-value, has_moved, untouched_name}
use Rattle.potential_pairs.proofs.pairs.Pairs.plan_moved.Goals as goal

-- the row is of two of the first n files, the lower first
abbrev IsBelow : ℕ → Row → Type 0
IsBelow n row = (row.0.0 < row.0.1) × (row.0.1 < n)

abbrev no_pair : Row
no_pair = ((0, 0), 0)

pub near_of_moved-requires : goal.near_of_moved-requires
near_of_moved-requires g c =
    subst AscendByFile (sym (c.moves.ensures ∙ c.requires.moves)) (moves_ascend (size_of c.args.groups.now) (relations_in c.args.groups.now) (relations_after c.args.moved.now c.args.groups.now))

pub plan_renamed-requires-clause-lower : goal.plan_renamed-requires-clause-lower
plan_renamed-requires-clause-lower g c =
    let n = size_of c.args.groups.now in
    let near : List Row = c.args.self.now.rows.near in
    let moves : List Move = c.args.moved.now.moves in
    let list : List Row = c.as_slice-f-items.result.now in
    let i = c.loop-f.f-index in
    let are : list ≡ touched moves near = c.as_slice-f-items.ensures.value ∙ c.in_ok-touched.ensures.rows ∙ ap (λ ms. touched ms near) c.moves.ensures in
    let within : i < length (touched moves near) = omega (arith, c.loop-f-test.true, ap length are) in
    let here : IsBelow n (get_or (touched moves near) i no_pair) = All-filter (λ (row : Row). has_moved moves row.0) (IsBelow n) near c.requires.below i no_pair within in
    (subst (λ (rows : List Row). IsBelow n (get_or rows i no_pair)) (sym are) here).0

pub plan_renamed-requires-clause-there : goal.plan_renamed-requires-clause-there
plan_renamed-requires-clause-there g c =
    let n = size_of c.args.groups.now in
    let near : List Row = c.args.self.now.rows.near in
    let moves : List Move = c.args.moved.now.moves in
    let list : List Row = c.as_slice-f-items.result.now in
    let i = c.loop-f.f-index in
    let are : list ≡ touched moves near = c.as_slice-f-items.ensures.value ∙ c.in_ok-touched.ensures.rows ∙ ap (λ ms. touched ms near) c.moves.ensures in
    let within : i < length (touched moves near) = omega (arith, c.loop-f-test.true, ap length are) in
    let here : IsBelow n (get_or (touched moves near) i no_pair) = All-filter (λ (row : Row). has_moved moves row.0) (IsBelow n) near c.requires.below i no_pair within in
    (subst (λ (rows : List Row). IsBelow n (get_or rows i no_pair)) (sym are) here).1

pub plan_renamed-requires-clause-shallow : goal.plan_renamed-requires-clause-shallow
plan_renamed-requires-clause-shallow g c =
    let near : List Row = c.args.self.now.rows.near in
    let moves : List Move = c.args.moved.now.moves in
    let list : List Row = c.as_slice-f-items.result.now in
    let i = c.loop-f.f-index in
    let are : list ≡ touched moves near = c.as_slice-f-items.ensures.value ∙ c.in_ok-touched.ensures.rows ∙ ap (λ ms. touched ms near) c.moves.ensures in
    let within : i < length (touched moves near) = omega (arith, c.loop-f-test.true, ap length are) in
    let R : Relations = relations_in c.args.groups.now in
    let naming : Name = live_name R c.args.self.now.rows.gone in
    let this = get_or (touched moves near) i no_pair in
    let here : IsDistance this.1 = value-within near c.in_order.ensures.shallow this.0 this.1 (chosen_value near naming naming c.in_order.ensures.near (has_moved moves) i no_pair within) in
    subst (λ (rows : List Row). IsDistance (get_or rows i no_pair).1) (sym are) here

pub loop-f-init : goal.loop-f-init
loop-f-init g c =
    let R : Relations = relations_in c.args.groups.now in
    let Q : Relations = relations_after c.args.moved.now c.args.groups.now in
    let n = size_of c.args.groups.now in
    let rows : PairsView = c.args.self.now.rows in
    let list : List Move = c.args.moved.now.moves in
    let old : Name = live_name R rows.gone in
    let new : Name = live_name Q rows.gone in
    let named : AreNamed Q = subst AreNamed c.groups_after-after.ensures.relations (reading-named c.groups_after-after.result.now) in
    let others : (files : ℕ × ℕ) (e : ℕ) → value_of pair_cmp rows.near files ≡ Some e → has_moved list files ≡ false → new files ≡ old files = λ files e has none.
    let below = below-value n rows.near files e c.requires.below has in
    untouched_name n R Q rows.gone list c.requires.moves c.requires.sound (reading-named c.args.groups.now) c.requires.sound_after named files (omega (arith, below.0, below.1)) below.1 none in
    record {
      counts = λ name d.
          counts-nothing R c.new-plan.result rows c.new-plan.ensures.near c.new-plan.ensures.tallies c.new-plan.ensures.live c.requires.of name d
          ∙ sym (waiting-none rows.near old new c.in_order.ensures.near (has_moved list) others name d);
      near = c.new-plan.ensures.near;
      live = c.new-plan.ensures.live;
      reads = omega (arith, c.near_of_moved.ensures.reads, ap length c.moves.ensures, ap (λ ms. length (touched ms rows.near)) c.moves.ensures);
    }

pub loop-f-preserved : goal.loop-f-preserved
loop-f-preserved g c =
    let near : List Row = c.args.self.now.rows.near in
    let moves : List Move = c.args.moved.now.moves in
    let list : List Row = c.as_slice-f-items.result.now in
    let i = c.loop-f.f-index in
    let are : list ≡ touched moves near = c.as_slice-f-items.ensures.value ∙ c.in_ok-touched.ensures.rows ∙ ap (λ ms. touched ms near) c.moves.ensures in
    let within : i < length (touched moves near) = omega (arith, c.loop-f-test.true, ap length are) in
    let R : Relations = relations_in c.args.groups.now in
    let Q : Relations = relations_after c.args.moved.now c.args.groups.now in
    let gone = c.args.self.now.rows.gone in
    let old : Name = live_name R gone in
    let new : Name = live_name Q gone in
    let before = c.loop-f.invariant in
    let after_is : relations_in c.groups_after-after.result.now ≡ Q = c.groups_after-after.ensures.relations in
    record {
      counts = λ name d.
          c.in_ok-plan_renamed.ensures.tallies name d
          ∙ (λ k. before.counts name d k + weight (live_name (after_is k) gone (get_or (are k) i no_pair).0) (get_or (are k) i no_pair).1 name d - weight (old (get_or (are k) i no_pair).0) (get_or (are k) i no_pair).1 name d)
          ∙ sym (waiting-more near old new c.in_order.ensures.near (has_moved moves) i no_pair within name d);
      near = c.plan_renamed.ensures.near ∙ before.near;
      live = c.plan_renamed.ensures.live ∙ before.live;
      reads = omega (arith, before.reads, c.plan_renamed.ensures.reads);
    }

pub returns-clause-near : goal.returns-clause-near
returns-clause-near g c =
    ap (λ (p : PlanView). (after p c.reserve_for.new.self.rows).near) c.in_ok-plan.ensures ∙ after-near c.loop-f.plan c.reserve_for.new.self.rows c.loop-f.invariant.near ∙ ap (λ (rows : PairsView). rows.near) c.reserve_for.ensures.rows

pub returns-clause-gone : goal.returns-clause-gone
returns-clause-gone g c =
    ap (λ (p : PlanView). (after p c.reserve_for.new.self.rows).gone) c.in_ok-plan.ensures ∙ after-live c.loop-f.plan c.reserve_for.new.self.rows None c.loop-f.invariant.live ∙ ap (λ (rows : PairsView). rows.gone) c.reserve_for.ensures.rows

pub returns-clause-of_after : goal.returns-clause-of_after
returns-clause-of_after g c =
    let R : Relations = relations_in c.args.groups.now in
    let Q : Relations = relations_after c.args.moved.now c.args.groups.now in
    let plan : PlanView = c.loop-f.plan in
    let rows : PairsView = c.args.self.now.rows in
    let moves : List Move = c.args.moved.now.moves in
    let list : List Row = c.as_slice-f-items.result.now in
    let are : list ≡ touched moves rows.near = c.as_slice-f-items.ensures.value ∙ c.in_ok-touched.ensures.rows ∙ ap (λ ms. touched ms rows.near) c.moves.ensures in
    let old : Name = live_name R rows.gone in
    let new : Name = live_name Q rows.gone in
    let counted : AreCounted new (after plan rows) = counted-after new plan rows (λ name d.
    c.loop-f.invariant.counts name d
    ∙ waiting-all rows.near old new c.in_order.ensures.near (has_moved moves) c.loop-f.f-index (omega (arith, c.loop-f-test.false, ap length are)) name d
    ∙ ap (λ (near : List Row). count_named new near name d) (sym (after-near plan rows c.loop-f.invariant.near))) in
    subst (λ (p : PlanView). AreOf Q (after p c.reserve_for.new.self.rows)) (sym c.in_ok-plan.ensures)
    (subst (λ (r : PairsView). AreOf Q (after plan r)) (sym c.reserve_for.ensures.rows) (of-after Q plan rows None c.loop-f.invariant.live c.in_order.ensures.kept counted))

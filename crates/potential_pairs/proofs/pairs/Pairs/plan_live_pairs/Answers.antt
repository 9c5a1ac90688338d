use Rattle.std.proofs.Common.{◌≡◌, ◌∙◌, ◌<◌, ◌+◌, ◌-◌, ℕ, Bool, true, false, Some, List, length, not, filter, get_or, refl, sym, ap, subst, arith}
use mathlib.Core.Bool.{beq}
use Rattle.std.proofs.lemmas.List.Elements.{All-filter}
use Rattle.relation_groups.specs.Reading.{relations_in, size_of}
use Rattle.relation_groups.specs.Relations.{Relations}
use Rattle.potential_pairs.specs.Levels.{IsDistance}
use Rattle.potential_pairs.specs.Naming.{count_named, live_name, weight}
use Rattle.potential_pairs.specs.Planning.{has_file, with_live}
use Rattle.potential_pairs.specs.Potential.{Row, is_live}
use Rattle.potential_pairs.proofs.Alive.{name_elsewhere, name_kept}
use Rattle.potential_pairs.proofs.InStep.{value-within}
use Rattle.potential_pairs.proofs.Renaming.{Name, chosen_passes, chosen_value, waiting-all, waiting-more, waiting-none}
use Rattle.potential_pairs.proofs.pairs.Pairs.plan_live_pairs.Goals as goal

-- the row is of two of the first n files, the lower first
abbrev IsBelow : ℕ → Row → Type 0
IsBelow n row = (row.0.0 < row.0.1) × (row.0.1 < n)

abbrev no_pair : Row
no_pair = ((0, 0), 0)

as_it_is : (alive live : Bool) → not (beq (not alive) live) ≡ true → alive ≡ live
as_it_is true true same = refl
as_it_is true false same = cc
as_it_is false true same = cc
as_it_is false false same = refl

pub plan_live_pair-requires-clause-lower : goal.plan_live_pair-requires-clause-lower
plan_live_pair-requires-clause-lower g c =
    let near : List Row = c.args.self.now.rows.near in
    let file = c.args.file in
    let list : List Row = c.as_slice-f-items.result.now in
    let i = c.loop-f.f-index in
    let are : list ≡ filter (λ row. has_file file.0 row.0) near = c.as_slice-f-items.ensures.value ∙ c.in_ok-pairs.ensures.rows in
    let within : i < length (filter (λ (row : Row). has_file file.0 row.0) near) = omega (arith, c.loop-f-test.true, ap length are) in
    let this = get_or (filter (λ (row : Row). has_file file.0 row.0) near) i no_pair in
    let n = size_of c.args.groups.now in
    let below : IsBelow n this = All-filter (λ (row : Row). has_file file.0 row.0) (IsBelow n) near c.requires.below i no_pair within in
    (subst (λ (rows : List Row). IsBelow n (get_or rows i no_pair)) (sym are) below).0

pub plan_live_pair-requires-clause-there : goal.plan_live_pair-requires-clause-there
plan_live_pair-requires-clause-there g c =
    let near : List Row = c.args.self.now.rows.near in
    let file = c.args.file in
    let list : List Row = c.as_slice-f-items.result.now in
    let i = c.loop-f.f-index in
    let are : list ≡ filter (λ row. has_file file.0 row.0) near = c.as_slice-f-items.ensures.value ∙ c.in_ok-pairs.ensures.rows in
    let within : i < length (filter (λ (row : Row). has_file file.0 row.0) near) = omega (arith, c.loop-f-test.true, ap length are) in
    let this = get_or (filter (λ (row : Row). has_file file.0 row.0) near) i no_pair in
    let n = size_of c.args.groups.now in
    let below : IsBelow n this = All-filter (λ (row : Row). has_file file.0 row.0) (IsBelow n) near c.requires.below i no_pair within in
    (subst (λ (rows : List Row). IsBelow n (get_or rows i no_pair)) (sym are) below).1

pub plan_live_pair-requires-clause-shallow : goal.plan_live_pair-requires-clause-shallow
plan_live_pair-requires-clause-shallow g c =
    let near : List Row = c.args.self.now.rows.near in
    let file = c.args.file in
    let list : List Row = c.as_slice-f-items.result.now in
    let i = c.loop-f.f-index in
    let are : list ≡ filter (λ row. has_file file.0 row.0) near = c.as_slice-f-items.ensures.value ∙ c.in_ok-pairs.ensures.rows in
    let within : i < length (filter (λ (row : Row). has_file file.0 row.0) near) = omega (arith, c.loop-f-test.true, ap length are) in
    let this = get_or (filter (λ (row : Row). has_file file.0 row.0) near) i no_pair in
    let R : Relations = relations_in c.args.groups.now in
    let gone = c.args.self.now.rows.gone in
    let old : Name = live_name R gone in
    let new : Name = live_name R (with_live (Some (c.args.file, c.args.live)) gone) in
    let shallow : IsDistance this.1 = value-within near c.in_order.ensures.shallow this.0 this.1 (chosen_value near old new c.in_order.ensures.near (has_file file.0) i no_pair within) in
    subst (λ (rows : List Row). IsDistance (get_or rows i no_pair).1) (sym are) shallow

pub plan_live_pair-requires-clause-of_file : goal.plan_live_pair-requires-clause-of_file
plan_live_pair-requires-clause-of_file g c =
    let near : List Row = c.args.self.now.rows.near in
    let file = c.args.file in
    let list : List Row = c.as_slice-f-items.result.now in
    let i = c.loop-f.f-index in
    let are : list ≡ filter (λ row. has_file file.0 row.0) near = c.as_slice-f-items.ensures.value ∙ c.in_ok-pairs.ensures.rows in
    let within : i < length (filter (λ (row : Row). has_file file.0 row.0) near) = omega (arith, c.loop-f-test.true, ap length are) in
    let this = get_or (filter (λ (row : Row). has_file file.0 row.0) near) i no_pair in
    let R : Relations = relations_in c.args.groups.now in
    let gone = c.args.self.now.rows.gone in
    let old : Name = live_name R gone in
    let new : Name = live_name R (with_live (Some (c.args.file, c.args.live)) gone) in
    ap (λ (rows : List Row). has_file file.0 (get_or rows i no_pair).0) are ∙ chosen_passes near old new c.in_order.ensures.near (has_file file.0) i no_pair within

pub loop-f-init : goal.loop-f-init
loop-f-init g c =
    let near : List Row = c.args.self.now.rows.near in
    let R : Relations = relations_in c.args.groups.now in
    let gone = c.args.self.now.rows.gone in
    let old : Name = live_name R gone in
    let new : Name = live_name R (with_live (Some (c.args.file, c.args.live)) gone) in
    let others : (files : ℕ × ℕ) → has_file c.args.file.0 files ≡ false → new files ≡ old files = λ files none. name_elsewhere R gone c.args.file c.args.live c.in_order.ensures.gone files none in
    record {
      counts = λ name d. c.requires.counts name d ∙ sym (waiting-none near old new c.in_order.ensures.near (has_file c.args.file.0) (λ files e has none. others files none) name d);
      near = refl;
      reads = omega (arith, c.is_gone.ensures.steps, c.near_of_file.ensures.reads);
    }

pub loop-f-preserved : goal.loop-f-preserved
loop-f-preserved g c =
    let near : List Row = c.args.self.now.rows.near in
    let file = c.args.file in
    let list : List Row = c.as_slice-f-items.result.now in
    let i = c.loop-f.f-index in
    let are : list ≡ filter (λ row. has_file file.0 row.0) near = c.as_slice-f-items.ensures.value ∙ c.in_ok-pairs.ensures.rows in
    let within : i < length (filter (λ (row : Row). has_file file.0 row.0) near) = omega (arith, c.loop-f-test.true, ap length are) in
    let this = get_or (filter (λ (row : Row). has_file file.0 row.0) near) i no_pair in
    let R : Relations = relations_in c.args.groups.now in
    let gone = c.args.self.now.rows.gone in
    let old : Name = live_name R gone in
    let new : Name = live_name R (with_live (Some (c.args.file, c.args.live)) gone) in
    let before = c.loop-f.invariant in
    record {
      counts = λ name d.
          c.in_ok-plan_live_pair.ensures.tallies name d
          ∙ (λ k. before.counts name d k + weight (new (get_or (are k) i no_pair).0) (get_or (are k) i no_pair).1 name d - weight (old (get_or (are k) i no_pair).0) (get_or (are k) i no_pair).1 name d)
          ∙ sym (waiting-more near old new c.in_order.ensures.near (has_file file.0) i no_pair within name d);
      near = c.plan_live_pair.ensures.near ∙ before.near;
      reads = omega (arith, before.reads, c.plan_live_pair.ensures.reads);
    }

pub returns-then-is_gone-live-clause-counts : goal.returns-then-is_gone-live-clause-counts
returns-then-is_gone-live-clause-counts g c =
    let R : Relations = relations_in c.args.groups.now in
    let gone = c.args.self.now.rows.gone in
    let is : is_live gone c.args.file.0 ≡ c.args.live = as_it_is (is_live gone c.args.file.0) c.args.live (ap (λ answer. not (beq answer c.args.live)) (sym c.is_gone.ensures.gone) ∙ c.if-is_gone-live.true) in
    λ name d. c.requires.counts name d
    ∙ sym (λ i. count_named (λ files. name_kept R gone c.args.file c.args.live c.in_order.ensures.gone is files i) c.args.self.now.rows.near name d)

pub returns-in_err-plan_live_pair-clause-reads : goal.returns-in_err-plan_live_pair-clause-reads
returns-in_err-plan_live_pair-clause-reads g c =
    let near : List Row = c.args.self.now.rows.near in
    let file = c.args.file in
    let list : List Row = c.as_slice-f-items.result.now in
    let are : list ≡ filter (λ row. has_file file.0 row.0) near = c.as_slice-f-items.ensures.value ∙ c.in_ok-pairs.ensures.rows in
    omega (arith, c.loop-f.invariant.reads, c.plan_live_pair.ensures.reads, c.loop-f-test.true, ap length are)

pub returns-clause-counts : goal.returns-clause-counts
returns-clause-counts g c =
    let near : List Row = c.args.self.now.rows.near in
    let file = c.args.file in
    let list : List Row = c.as_slice-f-items.result.now in
    let are : list ≡ filter (λ row. has_file file.0 row.0) near = c.as_slice-f-items.ensures.value ∙ c.in_ok-pairs.ensures.rows in
    let R : Relations = relations_in c.args.groups.now in
    let gone = c.args.self.now.rows.gone in
    let old : Name = live_name R gone in
    let new : Name = live_name R (with_live (Some (c.args.file, c.args.live)) gone) in
    λ name d. c.loop-f.invariant.counts name d
    ∙ waiting-all near old new c.in_order.ensures.near (has_file file.0) c.loop-f.f-index (omega (arith, c.loop-f-test.false, ap length are)) name d

pub returns-clause-reads : goal.returns-clause-reads
returns-clause-reads g c =
    let near : List Row = c.args.self.now.rows.near in
    let file = c.args.file in
    let list : List Row = c.as_slice-f-items.result.now in
    let are : list ≡ filter (λ row. has_file file.0 row.0) near = c.as_slice-f-items.ensures.value ∙ c.in_ok-pairs.ensures.rows in
    omega (arith, c.loop-f.invariant.reads, c.loop-f.auto.f-index-end, ap length are)

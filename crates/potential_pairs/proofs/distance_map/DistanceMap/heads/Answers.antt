use Rattle.std.proofs.Common.{◌≡◌, ◌∙◌, ◌<◌, ◌≤◌, ℕ, zero, suc, List, Option, Some, None, get_or, replicate, refl, sym, subst, inl, inr, arith}
use Rattle.std.proofs.Math.ListN.{set}
use Rattle.std.proofs.lemmas.Bool.{cases_eq, cases_lt}
use Rattle.std.proofs.lemmas.List.{get_or-set_same, get_or-set_other, length-set}
use Rattle.media_types.specs.declared.numbers.FileNo.{FileNo}
use Rattle.potential_pairs.specs.Levels.{IsFirstBehind, IsHead}
use Rattle.potential_pairs.specs.Potential.{Row}
use Rattle.potential_pairs.proofs.distance_map.DistanceMap.heads.Goals as goal

abbrev no_name : Option (ℕ × ℕ)
no_name = None

always_none : (n d : ℕ) → get_or (replicate n no_name) d None ≡ None
always_none zero d = refl
always_none (suc n) zero = refl
always_none (suc n) (suc d) = always_none n d

head_within : (rows : List Row) (m d : ℕ) (place : Option (FileNo × FileNo)) (found : Option (ℕ × ℕ)) → d ≤ m → IsFirstBehind rows d place found → IsHead rows m place d found
head_within rows m d place None inside first = λ _. first
head_within rows m d place (Some name) inside first = (inside, first)

head_past : (rows : List Row) (m d : ℕ) (place : Option (FileNo × FileNo)) (found : Option (ℕ × ℕ)) → m < d → found ≡ None → IsHead rows m place d found
head_past rows m d place None past none = λ inside. absurd (omega (arith, past, inside))
head_past rows m d place (Some name) past none = cc

pub loop-distance-init : goal.loop-distance-init
loop-distance-init g c = record {
  done = λ d lt. absurd (omega (arith, lt));
  rest = λ d le. always_none 17 d;
  long = refl;
  reads = omega arith;
}

pub loop-distance-preserved : goal.loop-distance-preserved
loop-distance-preserved g c =
    let rows = c.args.self.now.rows in
    let m = c.args.at_most in
    let at = c.loop-distance.distance in
    let heads = c.loop-distance.heads in
    let before = c.loop-distance.invariant in
    record {
      done = λ d lt. elim (cases_eq d at) [
        | inl same ↦
            let here : get_or (set heads at c.first_behind.result) d None ≡ c.first_behind.result = rw same (get_or-set_same heads at c.first_behind.result None (omega (arith, before.long, c.loop-distance-test.true, c.levels_within-distance-end.ensures))) in
            let first : IsFirstBehind rows d c.args.place c.first_behind.result = rw same c.first_behind.ensures.first in
            subst (IsHead rows m c.args.place d) (sym here) (head_within rows m d c.args.place c.first_behind.result (omega (arith, same, c.loop-distance-test.true, c.levels_within-distance-end.ensures)) first)
        | inr other ↦
            let there : get_or (set heads at c.first_behind.result) d None ≡ get_or heads d None = get_or-set_other heads at d c.first_behind.result None other in
            subst (IsHead rows m c.args.place d) (sym there) (before.done d (omega (arith, lt, other)))
      ];
      rest = λ d past. get_or-set_other heads at d c.first_behind.result None (omega (arith, past)) ∙ before.rest d (omega (arith, past));
      long = length-set heads at c.first_behind.result ∙ before.long;
      reads = omega (arith, before.reads, c.first_behind.ensures.steps);
    }

pub returns-clause-heads : goal.returns-clause-heads
returns-clause-heads g c = λ d shallow.
    let last = c.levels_within-distance-end.ensures in
    elim (cases_lt d c.loop-distance.distance) [
      | inl inside ↦ c.loop-distance.invariant.done d inside
      | inr past ↦ head_past c.args.self.now.rows c.args.at_most d c.args.place _ (omega (arith, past, shallow, c.loop-distance-test.false, last)) (c.loop-distance.invariant.rest d past)
    ]

pub returns-clause-reads : goal.returns-clause-reads
returns-clause-reads g c = omega (arith, c.loop-distance.invariant.reads, c.loop-distance.auto.distance-end, c.levels_within-distance-end.ensures)

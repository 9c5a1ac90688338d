-- How many of some distances are within a bound.
use Rattle.std.proofs.Common.{◌≡◌, ◌≤◌, ◌+◌, ◌==◌, ℕ, Bool, true, false, cond, min, nat_le, nat_lt, count_by, List, [], ◌∷◌, length, All, Option, None, Some, unwrap_or, refl, arith}
use Rattle.std.specs.Map.{values_of}
use Rattle.std.specs.Option.{option_map}
use Rattle.std.proofs.lemmas.Bool.Decides.{nat_tests}
use Rattle.std.proofs.lemmas.List.Elements.{All-head, All-tail}
use Rattle.std.proofs.lemmas.List.Sums.{sum_by-cons}
use Rattle.media_types.specs.declared.limits.TheConstants.{MAX_DISTANCE}
use Rattle.potential_pairs.specs.Levels.{IsDistance, one_at}
use Rattle.potential_pairs.specs.Pages.{within}
use Rattle.potential_pairs.specs.Potential.{Row}

-- 1 where the test passes, and else 0
abbrev one_if : (ℕ → Bool) → ℕ → ℕ
one_if test v = cond (test v) 1 0

pub count-none : (vs : List ℕ) → count_by (λ v. nat_lt v 0) vs ≡ 0
count-none [] = refl
count-none (v ∷ vs) = let e = sum_by-cons (one_if (λ v. nat_lt v 0)) v vs in grind (arith, nat_tests, e, count-none vs)

-- one more distance
pub count-more : (vs : List ℕ) (d : ℕ) → count_by (λ v. nat_lt v (d + 1)) vs ≡ count_by (λ v. nat_lt v d) vs + count_by (λ v. v == d) vs
count-more [] d = refl
count-more (v ∷ vs) d =
    let more = sum_by-cons (one_if (λ v. nat_lt v (d + 1))) v vs in
    let below = sum_by-cons (one_if (λ v. nat_lt v d)) v vs in
    let at = sum_by-cons (one_if (λ v. v == d)) v vs in
    let first : one_if (λ v. nat_lt v (d + 1)) v ≡ one_if (λ v. nat_lt v d) v + one_if (λ v. v == d) v = grind (arith, nat_tests) in
    omega (arith, more, below, at, first, count-more vs d)

pub count-within : (vs : List ℕ) (m : ℕ) → All IsDistance vs → count_by (λ v. nat_lt v (min m MAX_DISTANCE + 1)) vs ≡ count_by (λ v. nat_le v m) vs
count-within [] m shallow = refl
count-within (v ∷ vs) m shallow =
    let below = sum_by-cons (one_if (λ v. nat_lt v (min m MAX_DISTANCE + 1))) v vs in
    let inside = sum_by-cons (one_if (λ v. nat_le v m)) v vs in
    let near : v ≤ MAX_DISTANCE = All-head IsDistance v vs shallow in
    let first : one_if (λ v. nat_lt v (min m MAX_DISTANCE + 1)) v ≡ one_if (λ v. nat_le v m) v = grind (arith, nat_tests) in
    omega (arith, below, inside, first, count-within vs m (All-tail IsDistance v vs shallow))

length-kept : (keeps : Bool) (row : Row) (rows : List Row) → length (cond keeps (row ∷ rows) rows) ≡ cond keeps 1 0 + length rows
length-kept keeps row rows = elim keeps as (λ k. length (cond k (row ∷ rows) rows) ≡ cond k 1 0 + length rows) [ true ↦ omega arith | false ↦ omega arith ]

pub length-within : (m : ℕ) (rows : List Row) → length (within m rows) ≡ count_by (λ v. nat_le v m) (values_of rows)
length-within m [] = refl
length-within m (row ∷ rows) =
    let inside = sum_by-cons (one_if (λ v. nat_le v m)) row.1 (values_of rows) in
    omega (arith, length-kept (nat_le row.1 m) row (within m rows), inside, length-within m rows)

-- what a name weighs in a count, as it is counted and as it is summed
pub one_at-option : (d : ℕ) (old : Option ℕ) → unwrap_or (option_map (λ v. cond (v == d) 1 0) old) 0 ≡ one_at d old
one_at-option d None = refl
one_at-option d (Some v) = refl

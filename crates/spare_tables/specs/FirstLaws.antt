-- Laws of the rows of one first number, among rows that ascend.
use Rattle.std.proofs.Common.{◌≡◌, ◌≢◌, ℕ, ◌<◌, ◌≤◌, List, [], ◌∷◌, refl, ap, inl, inr, arith}
use Rattle.std.specs.List.{All, AllByRecursion}
use Rattle.std.specs.List.Sorted.{IsStrictlySortedBy}
use Rattle.std.specs.Map.{keys_of}
use Rattle.std.specs.declared.cmp.Ordering.TheVariants.{Less, Equal, Greater}
use Rattle.std.proofs.lemmas.Bool.{ne_eqb}
use Rattle.std.proofs.lemmas.List.Elements.{All-cons, All-head, All-tail}
use Rattle.spare_tables.specs.Firsts.{AscendFrom, of_first}
use Rattle.spare_tables.specs.KeyLaws.{by_ordering}
use Rattle.spare_tables.specs.Keys.{rows_from}
use Rattle.spare_tables.specs.Order.{pair_cmp}
use Rattle.spare_tables.specs.PairLaws.{pair_says}

-- ---- the first numbers of pairs that stand in order
lesser : (first : ℕ) (key : ℕ × ℕ) → pair_cmp (first, 0) key ≡ Greater → key.0 < first
lesser first key greater = elim (pair_says (first, 0) key Greater greater) [
  | inl lower ↦ lower
  | inr both ↦ absurd (omega (arith, both.1))
]

not_lesser : (x y : ℕ × ℕ) → pair_cmp x y ≡ Less → x.0 ≤ y.0
not_lesser x y less = elim (pair_says x y Less less) [
  | inl lower ↦ omega arith
  | inr both ↦ omega (arith, both.0)
]

module _ {V : Type 0} where
  -- ---- where a walk of a first number begins
  -- the rows of a first number all stand from its first pair on
  pub of_first-from : (first : ℕ) (rows : List ((ℕ × ℕ) × V)) → of_first first (rows_from pair_cmp rows (first, 0)) ≡ of_first first rows
  of_first-from first [] = refl
  of_first-from first (row ∷ rows) = by_ordering (pair_cmp (first, 0) row.0)
      (λ less. rw less refl)
      (λ equal. rw equal refl)
      (λ greater. rw (greater, ne_eqb row.0.0 first (λ same. let less = lesser first row.0 greater in omega arith)) (of_first-from first rows))

  later_least : (first : ℕ) (before : ℕ × ℕ) (rows : List ((ℕ × ℕ) × V)) → first ≤ before.0 → AllByRecursion (λ key. pair_cmp before key ≡ Less) (keys_of rows) → All (λ (row : (ℕ × ℕ) × V). first ≤ row.0.0) rows
  later_least first before [] low all = λ k d within. absurd (omega arith)
  later_least first before (row ∷ rows) low all =
      let here = not_lesser before row.0 all.0 in
      All-cons (λ (r : (ℕ × ℕ) × V). first ≤ r.0.0) row rows (omega arith) (later_least first before rows low all.1)

  starting : (first : ℕ) (row : (ℕ × ℕ) × V) (rows : List ((ℕ × ℕ) × V)) → IsStrictlySortedBy pair_cmp (keys_of (row ∷ rows)) → first ≤ row.0.0 → AscendFrom first (row ∷ rows)
  unfolding IsStrictlySortedBy
  starting first row rows sorted low = record {
    sorted = sorted;
    least = All-cons (λ (r : (ℕ × ℕ) × V). first ≤ r.0.0) row rows low (later_least first row.0 rows low sorted.0);
  }

  pub AscendFrom-from : (first : ℕ) (rows : List ((ℕ × ℕ) × V)) → IsStrictlySortedBy pair_cmp (keys_of rows) → AscendFrom first (rows_from pair_cmp rows (first, 0))
  unfolding IsStrictlySortedBy
  AscendFrom-from first [] sorted = record { sorted = tt; least = λ k d within. absurd (omega arith) }
  AscendFrom-from first (row ∷ rows) sorted = by_ordering (pair_cmp (first, 0) row.0)
      (λ less. rw less (starting first row rows sorted (not_lesser (first, 0) row.0 less)))
      (λ equal. rw equal (starting first row rows sorted (let same = pair_says (first, 0) row.0 Equal equal in omega (arith, ap (λ (key : ℕ × ℕ). key.0) same))))
      (λ greater. rw greater (AscendFrom-from first rows sorted.1))

  -- ---- a step of a walk
  pub later_ascend : (first : ℕ) (row : (ℕ × ℕ) × V) (rows : List ((ℕ × ℕ) × V)) → AscendFrom first (row ∷ rows) → AscendFrom first rows
  unfolding IsStrictlySortedBy
  later_ascend first row rows ascend = record {
    sorted = ascend.sorted.1;
    least = All-tail (λ (r : (ℕ × ℕ) × V). first ≤ r.0.0) row rows ascend.least;
  }

  none_behind : (first : ℕ) (before : ℕ × ℕ) (rows : List ((ℕ × ℕ) × V)) → first < before.0 → AllByRecursion (λ key. pair_cmp before key ≡ Less) (keys_of rows) → of_first first rows ≡ []
  none_behind first before [] past all = refl
  none_behind first before (row ∷ rows) past all =
      let here = not_lesser before row.0 all.0 in
      rw (ne_eqb row.0.0 first (λ same. omega arith)) (none_behind first before rows past all.1)

  -- behind a row of another first number there is none of this one
  pub of_first-other : (first : ℕ) (row : (ℕ × ℕ) × V) (rows : List ((ℕ × ℕ) × V)) → AscendFrom first (row ∷ rows) → row.0.0 ≢ first → (of_first first (row ∷ rows) ≡ []) × (of_first first rows ≡ [])
  unfolding IsStrictlySortedBy
  of_first-other first row rows ascend other =
      let low : first ≤ row.0.0 = All-head (λ (r : (ℕ × ℕ) × V). first ≤ r.0.0) row rows ascend.least in
      let behind = none_behind first row.0 rows (omega (arith, other)) ascend.sorted.0 in
      (rw (ne_eqb row.0.0 first other) behind, behind)

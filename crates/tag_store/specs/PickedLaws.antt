-- Rows that are picked by their keys from rows that ascend, each under a part of its key that tells it from the
-- others: they ascend too, and have the values of the rows that they come from.
use Rattle.std.proofs.Common.{◌≡◌, ◌↔◌, ◌∙◌, Bool, true, false, cond, List, [], ◌∷◌, Option, Some, None, find, map, filter, refl, ap, inl, inr}
use Rattle.std.specs.BTreeMap.{is_at}
use Rattle.std.specs.Cmp.{IsTotalOrder, Equal-is, eq_by_cmp_equiv, tied_itself}
use Rattle.std.specs.List.{AllByRecursion, Contains}
use Rattle.std.specs.List.Sorted.{IsStrictlySortedBy}
use Rattle.std.specs.Map.{keys_of}
use Rattle.std.specs.Option.{MatchOption}
use Rattle.std.specs.Ordering.{is_eq}
use Rattle.std.specs.declared.cmp.Ordering.{Ordering}
use Rattle.std.specs.declared.cmp.Ordering.TheVariants.{Less, Equal}
use Rattle.std.proofs.lemmas.Bool.{cases_Bool}
use Rattle.std.proofs.lemmas.Map.{lookup-none}
use Rattle.std.proofs.lemmas.Map.Entries.{lookup_head, lookup_tail, none_below_head}
use Rattle.std.proofs.lemmas.Map.Keys.{IsDistinct-from_sorted, sorted_tail}
use Rattle.std.proofs.lemmas.Map.Views.{Contains-from_lookup, lookup-from_Contains, tells_apart}
use Rattle.spare_tables.specs.Keys.{value_of}

-- a row that is there with a value is a value that is found, where keys ascend
pub Contains-value : {K V : Type 0} {R : K → K → Ordering} → IsTotalOrder R → ((x y : K) → R x y ≡ Equal → x ≡ y) → (rows : List (K × V)) (key : K) (v : V)
    → IsStrictlySortedBy R (keys_of rows) → Contains rows (key, v) ↔ (value_of R rows key ≡ Some v)
Contains-value {R = R} order exact rows key v sorted = (
  lookup-from_Contains (eq_by_cmp_equiv order) key v rows (IsDistinct-from_sorted R (keys_of rows) sorted),
  Contains-from_lookup (tells_apart exact) key v rows,
)

-- a key that fails is none that passes
other_key : {K : Type 0} {R : K → K → Ordering} (test : K → Bool) → ((x y : K) → R x y ≡ Equal → x ≡ y) → (x k : K) → test x ≡ true → test k ≡ false → is_eq (R x k) ≡ false
other_key {R = R} test exact x k passes fails = elim (cases_Bool (is_eq (R x k))) [
  | inl equal ↦ let same = ap test (exact x k ((Equal-is (R x k)).0 equal)) in cc
  | inr apart ↦ apart
]

-- The found row, if there is one, is the first whose key passes: no lesser key that passes has a value. Where none
-- is found, no key that passes has any.
abbrev pub IsFirstFound : {K V : Type 0} → (K → K → Ordering) → (K → Bool) → List (K × V) → Option (K × V) → Type 0
IsFirstFound {K} R passes rows found = MatchOption found ((k : K) → passes k ≡ true → value_of R rows k ≡ None)
    (λ row. (passes row.0 ≡ true) × (value_of R rows row.0 ≡ Some row.1) × ((k : K) → passes k ≡ true → R k row.0 ≡ Less → value_of R rows k ≡ None))

first_later : {K V : Type 0} (R : K → K → Ordering) (passes : K → Bool) (row : K × V) (rows : List (K × V)) (found : Option (K × V))
    → ((k : K) → passes k ≡ true → value_of R (row ∷ rows) k ≡ value_of R rows k) → IsFirstFound R passes rows found → IsFirstFound R passes (row ∷ rows) found
first_later R passes row rows None later none = λ k good. later k good ∙ none k good
first_later R passes row rows (Some it) later (passing, has, lesser) = (passing, later it.0 passing ∙ has, λ k good less. later k good ∙ lesser k good less)

pub first_found : {K V : Type 0} {R : K → K → Ordering} → IsTotalOrder R → ((x y : K) → R x y ≡ Equal → x ≡ y) → (passes : K → Bool) (rows : List (K × V))
    → IsStrictlySortedBy R (keys_of rows) → IsFirstFound R passes rows (find (λ (row : K × V). passes row.0) rows)
first_found order exact passes [] sorted = λ k passing. refl
first_found {K} {V} {R} order exact passes (row ∷ rows) sorted = elim (cases_Bool (passes row.0)) [
  | inl passing ↦ rw passing (
    passing,
    lookup_head (is_at (R row.0)) row rows (ap is_eq (tied_itself order row.0)),
    λ k good less. lookup-none (is_at (R k)) (row ∷ rows) (none_below_head order k row rows sorted less),
  )
  | inr failing ↦
      let rest = first_found order exact passes rows (sorted_tail R row.0 (keys_of rows) sorted) in
      rw failing (first_later R passes row rows (find (λ (r : K × V). passes r.0) rows)
      (λ k good. lookup_tail (is_at (R k)) row rows (other_key passes exact k row.0 good failing)) rest)
]

module _ {K N V : Type 0} (test : K → Bool) (pick : K → N) where
  -- the rows whose keys pass, each under what is picked of its key
  abbrev pub picked : List (K × V) → List (N × V)
  picked rows = map (λ row. (pick row.0, row.1)) (filter (λ row. test row.0) rows)

  module _ {R : K → K → Ordering} {Q : N → N → Ordering} (key : N → K) (exact : (x y : K) → R x y ≡ Equal → x ≡ y) (whole : (k : K) → test k ≡ true → key (pick k) ≡ k)
      (passes : (n : N) → test (key n) ≡ true) (alike : (m n : N) → Q m n ≡ R (key m) (key n)) where
    pub value-picked : (rows : List (K × V)) (n : N) → value_of Q (picked rows) n ≡ value_of R rows (key n)
    value-picked [] n = refl
    value-picked (row ∷ rows) n = elim (cases_Bool (test row.0)) [
      | inl passing ↦
          let at : Q n (pick row.0) ≡ R (key n) row.0 = alike n (pick row.0) ∙ ap (R (key n)) (whole row.0 passing) in
          rw passing (λ i. cond (is_eq (at i)) (Some row.1) (value-picked rows n i))
      | inr failing ↦ rw (failing, other_key test exact (key n) row.0 (passes n) failing) (value-picked rows n)
    ]

    behind-picked : (k : K) → test k ≡ true → (rows : List (K × V)) → AllByRecursion (λ y. R k y ≡ Less) (keys_of rows) → AllByRecursion (λ m. Q (pick k) m ≡ Less) (keys_of (picked rows))
    behind-picked k here [] later = tt
    behind-picked k here (row ∷ rows) later = elim (cases_Bool (test row.0)) [
      | inl passing ↦ rw passing (alike (pick k) (pick row.0) ∙ (λ i. R (whole k here i) (whole row.0 passing i)) ∙ later.0, behind-picked k here rows later.1)
      | inr failing ↦ rw failing (behind-picked k here rows later.1)
    ]

    pub sorted-picked : (rows : List (K × V)) → IsStrictlySortedBy R (keys_of rows) → IsStrictlySortedBy Q (keys_of (picked rows))
    unfolding IsStrictlySortedBy
    sorted-picked [] sorted = tt
    sorted-picked (row ∷ rows) sorted = elim (cases_Bool (test row.0)) [
      | inl passing ↦ rw passing (behind-picked row.0 passing rows sorted.0, sorted-picked rows sorted.1)
      | inr failing ↦ rw failing (sorted-picked rows sorted.1)
    ]

-- The rows of two first numbers, among rows that ascend.
use Rattle.std.proofs.Common.{◌≡◌, ◌≢◌, ◌∙◌, ◌<◌, ◌^◌, ◌==◌, ◌&&◌, ℕ, Bool, true, false, cond, nat_le, List, [], ◌∷◌, Some, None, find, filter, slice_get, refl, sym, ap, inl, inr, arith}
use Rattle.std.specs.Cmp.{IsTotalOrder}
use Rattle.std.specs.List.{All, AllByRecursion}
use Rattle.std.specs.List.Sorted.{IsStrictlySortedBy}
use Rattle.std.specs.Map.{keys_of}
use Rattle.std.specs.Ordering.{nat_cmp, ordering_then}
use Rattle.std.specs.declared.cmp.Ordering.{Ordering}
use Rattle.std.specs.declared.cmp.Ordering.TheVariants.{Less, Equal, Greater}
use Rattle.std.proofs.lemmas.Bool.{cases_Bool, eq-eqb, ne_eqb}
use Rattle.std.proofs.lemmas.Bool.Decides.{nat_tests}
use Rattle.std.proofs.lemmas.List.Elements.{All-head, All-tail}
use Rattle.std.proofs.lemmas.Map.Keys.{sorted_tail}
use Rattle.spare_tables.specs.KeyLaws.{by_ordering, flipped}
use Rattle.spare_tables.specs.Keys.{rows_from}
use Rattle.spare_tables.specs.Order.{pair_cmp, pair_exact, triple_cmp}
use Rattle.spare_tables.specs.PairLaws.{number_says, pair_order}
use Rattle.tag_types.specs.declared.map_state.MapState.{MapState}
use Rattle.tag_store.specs.Lasts.{AscendFrom, IsShort, lasts, lasts_from}
use Rattle.tag_store.specs.Mapped.{Ascend, Row}
use Rattle.tag_store.specs.MappedLaws.{both_same, of_two, triple_order}

-- ---- rows from a key on
module _ {K V : Type 0} {R : K → K → Ordering} (order : IsTotalOrder R) (start : K) where
  later_too : (k : K) (rows : List (K × V)) → R start k ≢ Greater → AllByRecursion (λ y. R k y ≡ Less) (keys_of rows) → AllByRecursion (λ y. R start y ≢ Greater) (keys_of rows)
  later_too k [] from later = tt
  later_too k (row ∷ rows) from later = (
    by_ordering (R start k)
        (λ less. λ greater. let below = order.trans start k row.0 less later.0 in cc)
        (λ equal. λ greater. let below = order.congr start k row.0 equal in let less = later.0 in cc)
        (λ greater. absurd (from greater)),
    later_too k rows from later.1,
  )

  pub all_from : (rows : List (K × V)) → IsStrictlySortedBy R (keys_of rows) → AllByRecursion (λ y. R start y ≢ Greater) (keys_of (rows_from R rows start))
  unfolding IsStrictlySortedBy
  all_from [] sorted = tt
  all_from (row ∷ rows) sorted = by_ordering (R start row.0)
      (λ less. let from : R start row.0 ≢ Greater = λ greater. cc in rw less (from, later_too row.0 rows from sorted.0))
      (λ equal. let from : R start row.0 ≢ Greater = λ greater. cc in rw equal (from, later_too row.0 rows from sorted.0))
      (λ greater. rw greater (all_from rows sorted.1))

  pub sorted_from : (rows : List (K × V)) → IsStrictlySortedBy R (keys_of rows) → IsStrictlySortedBy R (keys_of (rows_from R rows start))
  unfolding IsStrictlySortedBy
  sorted_from [] sorted = tt
  sorted_from (row ∷ rows) sorted = by_ordering (R start row.0)
      (λ less. rw less sorted) (λ equal. rw equal sorted) (λ greater. rw greater (sorted_from rows sorted.1))

-- ---- where a walk of two first numbers begins
two_from : (a b from : ℕ) (k : ℕ × ℕ × ℕ) → triple_cmp (a, b, from) k ≢ Greater → pair_cmp (a, b) (k.0, k.1) ≢ Greater
two_from a b from k start greater = start (ap (λ r. ordering_then r (nat_cmp from k.2)) greater)

all_two : (a b from : ℕ) (rows : List Row) → AllByRecursion (λ k. triple_cmp (a, b, from) k ≢ Greater) (keys_of rows) → AllByRecursion (λ (k : ℕ × ℕ × ℕ). pair_cmp (a, b) (k.0, k.1) ≢ Greater) (keys_of rows)
all_two a b from [] all = tt
all_two a b from (row ∷ rows) all = (two_from a b from row.0 all.0, all_two a b from rows all.1)

pub AscendFrom-from : (a b from : ℕ) (rows : List Row) → Ascend rows → AscendFrom a b (rows_from triple_cmp rows (a, b, from))
AscendFrom-from a b from rows sorted = record {
  sorted = sorted_from triple_order (a, b, from) rows sorted;
  least = all_two a b from (rows_from triple_cmp rows (a, b, from)) (all_from triple_order (a, b, from) rows sorted);
}

-- of a row of these two first numbers the last ones decide
at_two : (a b from : ℕ) (k : ℕ × ℕ × ℕ) → k.0 == a && k.1 == b ≡ true → triple_cmp (a, b, from) k ≡ nat_cmp from k.2
at_two a b from k both =
    let same = both_same k.0 a k.1 b both in
    (λ i. triple_cmp (a, b, from) (same.0 i, same.1 i, k.2)) ∙ sym (of_two a b from k.2)

passes_from : (a b from : ℕ) (k : ℕ × ℕ × ℕ) → k.0 == a && k.1 == b ≡ true → triple_cmp (a, b, from) k ≢ Greater → nat_le from k.2 ≡ true
passes_from a b from k both start = by_ordering (nat_cmp from k.2)
    (λ less. let lower = number_says from k.2 Less less in grind (arith, nat_tests))
    (λ equal. let same = number_says from k.2 Equal equal in grind (arith, nat_tests))
    (λ greater. absurd (start (at_two a b from k both ∙ greater)))

fails_from : (a b from : ℕ) (k : ℕ × ℕ × ℕ) → k.0 == a && k.1 == b ≡ true → triple_cmp (a, b, from) k ≡ Greater → nat_le from k.2 ≡ false
fails_from a b from k both greater =
    let lower = number_says from k.2 Greater (sym (at_two a b from k both) ∙ greater) in
    grind (arith, nat_tests)

all_pass : (a b from : ℕ) (rows : List Row) → AllByRecursion (λ k. triple_cmp (a, b, from) k ≢ Greater) (keys_of rows) → lasts_from a b from rows ≡ lasts a b rows
all_pass a b from [] all = refl
all_pass a b from (row ∷ rows) all = elim (cases_Bool (row.0.0 == a && row.0.1 == b)) [
  | inl both ↦ rw (both, passes_from a b from row.0 both all.0) (ap (λ later. (row.0.2, row.1) ∷ later) (all_pass a b from rows all.1))
  | inr other ↦ rw other (all_pass a b from rows all.1)
]

stop : (a b from : ℕ) (row : Row) (rows : List Row) → Ascend (row ∷ rows) → triple_cmp (a, b, from) row.0 ≢ Greater → lasts a b (row ∷ rows) ≡ lasts_from a b from (row ∷ rows)
unfolding IsStrictlySortedBy
stop a b from row rows sorted start = sym (all_pass a b from (row ∷ rows) (start, later_too triple_order (a, b, from) row.0 rows start sorted.0))

-- the rows of two first numbers from a last one on stand from that place on
pub lasts-from : (a b from : ℕ) (rows : List Row) → Ascend rows → lasts a b (rows_from triple_cmp rows (a, b, from)) ≡ lasts_from a b from rows
lasts-from a b from [] sorted = refl
lasts-from a b from (row ∷ rows) sorted = by_ordering (triple_cmp (a, b, from) row.0)
    (λ less. let here = stop a b from row rows sorted (λ greater. cc) in rw less here)
    (λ equal. let here = stop a b from row rows sorted (λ greater. cc) in rw equal here)
    (λ greater.
    let rest = lasts-from a b from rows (sorted_tail triple_cmp row.0 (keys_of rows) sorted) in
    rw greater (elim (cases_Bool (row.0.0 == a && row.0.1 == b)) [
      | inl both ↦ rw (both, fails_from a b from row.0 both greater) rest
      | inr other ↦ rw other rest
    ]))

-- ---- a step of a walk
pub later_ascend : (a b : ℕ) (row : Row) (rows : List Row) → AscendFrom a b (row ∷ rows) → AscendFrom a b rows
unfolding IsStrictlySortedBy
later_ascend a b row rows ascend = record { sorted = ascend.sorted.1; least = ascend.least.1 }

none_behind : (a b : ℕ) (k : ℕ × ℕ × ℕ) (rows : List Row) → pair_cmp (k.0, k.1) (a, b) ≡ Greater → AllByRecursion (λ y. triple_cmp k y ≡ Less) (keys_of rows) → lasts a b rows ≡ []
none_behind a b k [] past later = refl
none_behind a b k (row ∷ rows) past later = elim (cases_Bool (row.0.0 == a && row.0.1 == b)) [
  | inl both ↦
      let same = both_same row.0.0 a row.0.1 b both in
      let here : triple_cmp k row.0 ≡ Greater = (λ i. triple_cmp k (same.0 i, same.1 i, row.0.2)) ∙ ap (λ r. ordering_then r (nat_cmp k.2 row.0.2)) past in
      let less = later.0 in
      cc
  | inr other ↦ rw other (none_behind a b k rows past later.1)
]

-- behind a row of other first numbers there is none of these
pub lasts-other : (a b : ℕ) (row : Row) (rows : List Row) → AscendFrom a b (row ∷ rows) → row.0.0 == a && row.0.1 == b ≡ false → lasts a b (row ∷ rows) ≡ []
unfolding IsStrictlySortedBy
lasts-other a b row rows ascend other =
    let past : pair_cmp (row.0.0, row.0.1) (a, b) ≡ Greater = by_ordering (pair_cmp (a, b) (row.0.0, row.0.1))
    (λ less. flipped pair_order (a, b) (row.0.0, row.0.1) Less less)
    (λ equal. let same = pair_exact (a, b) (row.0.0, row.0.1) equal in
    let first : row.0.0 == a ≡ true = eq-eqb row.0.0 a (ap (λ (p : ℕ × ℕ). p.0) (sym same)) in
    let second : row.0.1 == b ≡ true = eq-eqb row.0.1 b (ap (λ (p : ℕ × ℕ). p.1) (sym same)) in
    absurd (let is : true ≡ false = rw (first, second) at other in cc))
    (λ greater. absurd (ascend.least.0 greater)) in
    rw other (none_behind a b row.0 rows past ascend.sorted.0)

-- where there is none of them there is none behind the first row
pub lasts-later : (a b : ℕ) (row : Row) (rows : List Row) → lasts a b (row ∷ rows) ≡ [] → lasts a b rows ≡ []
lasts-later a b row rows none = elim (cases_Bool (row.0.0 == a && row.0.1 == b)) [
  | inl both ↦ let never : (row.0.2, row.1) ∷ lasts a b rows ≡ [] = rw both at none in cc
  | inr other ↦ rw other at none
]

pub lasts-this : (a b : ℕ) (row : Row) (rows : List Row) → row.0.0 ≡ a → row.0.1 ≡ b → lasts a b (row ∷ rows) ≡ (row.0.2, row.1) ∷ lasts a b rows
lasts-this a b row rows first second = rw (eq-eqb row.0.0 a first, eq-eqb row.0.1 b second) refl

-- ---- the first after a place
pub first-filter : {X : Type 0} (test : X → Bool) (xs : List X) → slice_get (filter test xs) 0 ≡ find test xs
first-filter test [] = refl
first-filter test (x ∷ xs) = elim (cases_Bool (test x)) [ inl passes ↦ rw passes refl | inr fails ↦ rw fails (first-filter test xs) ]

pub find-alike : {X : Type 0} (p q : X → Bool) → ((x : X) → p x ≡ q x) → (xs : List X) → find p xs ≡ find q xs
find-alike p q alike [] = refl
find-alike p q alike (x ∷ xs) = λ i. cond (alike x i) (Some x) (find-alike p q alike xs i)

-- none of short rows passes a test that no short number passes
pub find-none : (test : ℕ → Bool) → ((n : ℕ) → n < 2 ^ 32 → test n ≡ false) → (a b : ℕ) (rows : List Row) → All IsShort (keys_of rows) → find (λ (it : ℕ × MapState). test it.0) (lasts a b rows) ≡ None
find-none test fails a b [] short = refl
find-none test fails a b (row ∷ rows) short =
    let rest = find-none test fails a b rows (All-tail IsShort row.0 (keys_of rows) short) in
    elim (cases_Bool (row.0.0 == a && row.0.1 == b)) [
      | inl both ↦ rw (both, fails row.0.2 (All-head IsShort row.0 (keys_of rows) short)) rest
      | inr other ↦ rw other rest
    ]

-- the rows from 0 on are all of them
pub lasts_from-0 : (a b : ℕ) (rows : List Row) → lasts_from a b 0 rows ≡ lasts a b rows
lasts_from-0 a b rows = by (lasts a b rows) where
  by : (list : List (ℕ × MapState)) → filter (λ (it : ℕ × MapState). nat_le 0 it.0) list ≡ list
  by [] = refl
  by (it ∷ list) = let all : nat_le 0 it.0 ≡ true = grind (arith, nat_tests) in rw all (ap (λ later. it ∷ later) (by list))

-- ---- a row of other first numbers
pub fails-first : (m a n b : ℕ) → m ≢ a → m == a && n == b ≡ false
fails-first m a n b other = rw (ne_eqb m a other) refl

pub fails-second : (m a n b : ℕ) → n ≢ b → m == a && n == b ≡ false
fails-second m a n b other = rw (ne_eqb n b other) (by (m == a)) where
  by : (test : Bool) → test && false ≡ false
  by true = refl
  by false = refl

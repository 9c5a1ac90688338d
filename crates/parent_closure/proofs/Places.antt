-- The row that stands for a pair.
use Rattle.std.proofs.Common.{◌≡◌, ◌∙◌, ℕ, zero, suc, ◌+◌, ◌-◌, ◌<◌, ◌≤◌, ◌==◌, ◌&&◌, Bool, true, false, List, [], ◌∷◌, ◌++◌, length, length-append, filter, map, get_or, Option, Some, None, slice_get, set, refl, sym, ap, inl, inr, arith}
use Rattle.std.specs.List.{AllByRecursion, range_with_len}
use Rattle.std.proofs.lemmas.Bool.{cases_lt, and_parts, false_from_ne_true}
use Rattle.std.proofs.lemmas.List.Elements.{All-from_recursion, recursion_from_All}
use Rattle.sibling_chains.specs.declared.relation_row.RelationRow.{RelationRow}
use Rattle.sibling_chains.specs.Ends.{at}
use Rattle.sibling_chains.specs.Grouping.{IsNext}
use Rattle.sibling_chains.specs.Recorded.{no_row, removed, removed_at}
use Rattle.sibling_chains.specs.RowLaws.{length-removed}
use Rattle.sibling_chains.specs.Clustered.{rows_but}
use Rattle.sibling_chains.specs.NumberLaws.{filter-by-place, passed-end, passed-le, passed-next}
use Rattle.std.proofs.lemmas.List.{length-map, map-append}
use Rattle.parent_closure.specs.Kept.{AreKept, IsFirstPlace, is_pair, rows_of}

pub first-at : (test : RelationRow → Bool) (rows : List RelationRow) (n : ℕ) → n < length rows → test (get_or rows n no_row) ≡ true
    → ((k : ℕ) → k < n → test (get_or rows k no_row) ≡ false) → IsFirstPlace test rows (Some n)
first-at test [] n lt here before = absurd (omega (arith, lt))
first-at test (row ∷ rows) zero lt here before = rw here (refl, refl, omega arith)
first-at test (row ∷ rows) (suc n) lt here before =
    let rest = first-at test rows n (omega (arith, lt)) here (λ k less. before (suc k) (omega (arith, less))) in
    let not-this : test row ≡ false = before 0 (omega arith) in
    rw not-this (rest.0, ap suc rest.1, lt)

pub none-at : (test : RelationRow → Bool) (rows : List RelationRow) → ((k : ℕ) → k < length rows → test (get_or rows k no_row) ≡ false) → IsFirstPlace test rows None
none-at test [] h = refl
none-at test (row ∷ rows) h =
    let not-this : test row ≡ false = h 0 (omega arith) in
    rw not-this (none-at test rows (λ k less. h (suc k) (omega (arith, less))))

pub child-at : (rows : List RelationRow) (k d : ℕ) → k < length rows → get_or (map (λ row. row.first.0) rows) k d ≡ (get_or rows k no_row).first.0
child-at [] k d lt = absurd (omega (arith, lt))
child-at (row ∷ rows) zero d lt = refl
child-at (row ∷ rows) (suc k) d lt = child-at rows k d (omega (arith, lt))

label-at : (rows : List RelationRow) (labels : List ℕ) (k : ℕ) → labels ≡ map (λ row. row.first.0) rows → k < length rows → at labels k ≡ (get_or rows k no_row).first.0
label-at rows labels k e lt = ap (λ (l : List ℕ). at l k) e ∙ child-at rows k k lt

-- the row of another child isn't the pair's
pub other-child : (s child parent : ℕ) (row : RelationRow) → (row.first.0 == child ≡ true → ⊥) → is_pair s child parent row ≡ false
other-child s child parent row other = false_from_ne_true (is_pair s child parent row) (λ yes.
    let parts = and_parts (row.standing && row.service.0 == s && row.first.0 == child) (row.second.0 == parent) yes in
    other (and_parts (row.standing && row.service.0 == s) (row.first.0 == child) parts.0).1)

-- the rows before the next one of the child aren't the pair's
pub none-between : (rows : List RelationRow) (labels : List ℕ) (s child parent from m : ℕ) → labels ≡ map (λ row. row.first.0) rows
    → IsNext (length labels) (λ n. at labels n == child) from (Some m)
    → ((k : ℕ) → k < from → is_pair s child parent (get_or rows k no_row) ≡ false)
    → length labels ≡ length rows
    → (k : ℕ) → k < m → is_pair s child parent (get_or rows k no_row) ≡ false
none-between rows labels s child parent from m e next before len k less = elim (cases_lt k from) [
  | inl old ↦ before k old
  | inr new ↦
      let label : at labels k ≡ (get_or rows k no_row).first.0 = ap (λ (l : List ℕ). at l k) e ∙ child-at rows k k (omega (arith, less, next.0, len)) in
      other-child s child parent (get_or rows k no_row) (λ is.
      omega (arith, next.3 k (omega (arith, less, next.0)) new (ap (λ x. x == child) label ∙ is), less))
]

-- nor any behind the last one
pub none-behind : (rows : List RelationRow) (labels : List ℕ) (s child parent from : ℕ) → labels ≡ map (λ row. row.first.0) rows
    → IsNext (length labels) (λ n. at labels n == child) from None
    → ((k : ℕ) → k < from → is_pair s child parent (get_or rows k no_row) ≡ false)
    → length labels ≡ length rows
    → (k : ℕ) → k < length rows → is_pair s child parent (get_or rows k no_row) ≡ false
none-behind rows labels s child parent from e next before len k less = elim (cases_lt k from) [
  | inl old ↦ before k old
  | inr new ↦
      let label : at labels k ≡ (get_or rows k no_row).first.0 = ap (λ (l : List ℕ). at l k) e ∙ child-at rows k k less in
      other-child s child parent (get_or rows k no_row) (λ is.
      omega (arith, next k (omega (arith, less, len)) (ap (λ x. x == child) label ∙ is), new))
]

-- ---- a row that is removed
pub set-one : (rows : List RelationRow) (n : ℕ) (row : RelationRow) → slice_get rows n ≡ Some row → set rows n (removed row) ≡ removed_at n rows
set-one [] n row is = absurd (cc)
set-one (r ∷ rows) zero row is = let same : row ≡ r = cc in ap (λ (x : RelationRow). removed x ∷ rows) same
set-one (r ∷ rows) (suc n) row is = ap (λ (l : List RelationRow). r ∷ l) (set-one rows n row is)

pub firsts-removed : (n : ℕ) (rows : List RelationRow) → map (λ row. row.first.0) (removed_at n rows) ≡ map (λ row. row.first.0) rows
firsts-removed n [] = refl
firsts-removed zero (row ∷ rows) = refl
firsts-removed (suc n) (row ∷ rows) = ap (λ l. row.first.0 ∷ l) (firsts-removed n rows)

pub kept-removed : (n : ℕ) (rows : List RelationRow) (labels : List ℕ) (tags : ℕ) → AreKept rows labels tags → AreKept (removed_at n rows) labels tags
kept-removed n rows labels tags h = record {
  children = h.children ∙ sym (firsts-removed n rows);
  known = All-from_recursion Known (removed_at n rows) (still n rows (recursion_from_All Known rows h.known));
  few = omega (arith, length-removed n rows, h.few);
  few_tags = h.few_tags;
}
  where
    Known : RelationRow → Type 0
    Known row = (row.first.0 < tags) × (row.second.0 < tags)

    still : (n : ℕ) (rows : List RelationRow) → AllByRecursion Known rows → AllByRecursion Known (removed_at n rows)
    still n [] a = tt
    still zero (row ∷ rows) a = a
    still (suc n) (row ∷ rows) a = (a.0, still n rows a.1)

-- ---- how many rows a child has

-- how many of the rows before a place are the child's
abbrev pub places_below : List RelationRow → ℕ → ℕ → ℕ
places_below rows child n = length (filter (λ k. (get_or rows k no_row).first.0 == child) (range_with_len 0 n))

pub places-all : (rows : List RelationRow) (child : ℕ) → places_below rows child (length rows) ≡ length (rows_of rows child)
places-all rows child =
    sym (ap length (filter-by-place (λ (row : RelationRow). row.first.0 == child) no_row rows)
    ∙ length-map (filter (λ k. (get_or rows k no_row).first.0 == child) (range_with_len 0 (length rows))) (λ k. get_or rows k no_row))

-- the next row of the child by the labels is the next by the rows
next-row : (rows : List RelationRow) (labels : List ℕ) (child from : ℕ) (found : Option ℕ) → labels ≡ map (λ row. row.first.0) rows → length labels ≡ length rows
    → IsNext (length labels) (λ n. at labels n == child) from found → IsNext (length rows) (λ k. (get_or rows k no_row).first.0 == child) from found
next-row rows labels child from None e len next = λ k lt here. next k (omega (arith, lt, len)) (ap (λ x. x == child) (label-at rows labels k e lt) ∙ here)
next-row rows labels child from (Some m) e len next =
    let lt : m < length rows = omega (arith, next.0, len) in (
      lt,
      next.1,
      ap (λ x. x == child) (sym (label-at rows labels m e lt)) ∙ next.2,
      λ k less past here. next.3 k (omega (arith, less, len)) past (ap (λ x. x == child) (label-at rows labels k e less) ∙ here),
    )

-- one more is read
pub places-next : (rows : List RelationRow) (labels : List ℕ) (child from m : ℕ) → labels ≡ map (λ row. row.first.0) rows → length labels ≡ length rows
    → IsNext (length labels) (λ n. at labels n == child) from (Some m) → places_below rows child (m + 1) ≡ places_below rows child from + 1
places-next rows labels child from m e len next =
    let test : ℕ → Bool = λ k. (get_or rows k no_row).first.0 == child in
    ap length (passed-next (length rows) test from m (next-row rows labels child from (Some m) e len next))
    ∙ length-append (filter test (range_with_len 0 from)) (m ∷ [])

-- no more than there are
pub places-few : (rows : List RelationRow) (child n : ℕ) → n ≤ length rows → places_below rows child n ≤ length (rows_of rows child)
places-few rows child n le =
    let more = passed-le (λ k. (get_or rows k no_row).first.0 == child) n (length rows - n) (length rows) (omega (arith, le)) in
    let all = places-all rows child in
    omega (arith, more, all)

-- ---- the rows of a child, one after the other

-- those before a place
abbrev pub rows_before : List RelationRow → ℕ → ℕ → List RelationRow
rows_before rows child n = map (λ k. get_or rows k no_row) (filter (λ k. (get_or rows k no_row).first.0 == child) (range_with_len 0 n))

pub rows-next : (rows : List RelationRow) (labels : List ℕ) (child from m : ℕ) → labels ≡ map (λ row. row.first.0) rows → length labels ≡ length rows
    → IsNext (length labels) (λ n. at labels n == child) from (Some m) → rows_before rows child (m + 1) ≡ rows_before rows child from ++ get_or rows m no_row ∷ []
rows-next rows labels child from m e len next =
    let test : ℕ → Bool = λ k. (get_or rows k no_row).first.0 == child in
    let row : ℕ → RelationRow = λ k. get_or rows k no_row in
    ap (map row) (passed-next (length rows) test from m (next-row rows labels child from (Some m) e len next))
    ∙ map-append row (filter test (range_with_len 0 from)) (m ∷ [])

pub rows-ended : (rows : List RelationRow) (labels : List ℕ) (child from : ℕ) → labels ≡ map (λ row. row.first.0) rows → length labels ≡ length rows → from ≤ length rows
    → IsNext (length labels) (λ n. at labels n == child) from None → rows_before rows child from ≡ rows_of rows child
rows-ended rows labels child from e len le next =
    let test : ℕ → Bool = λ k. (get_or rows k no_row).first.0 == child in
    let row : ℕ → RelationRow = λ k. get_or rows k no_row in
    sym (filter-by-place (λ (row : RelationRow). row.first.0 == child) no_row rows
    ∙ ap (map row) (passed-end (length rows) test from le (next-row rows labels child from None e len next)))

-- a row that is read as removed changes no child, and no number of rows
pub but-labels : (gone : Option ℕ) (rows : List RelationRow) → map (λ row. row.first.0) (rows_but gone rows) ≡ map (λ row. row.first.0) rows
but-labels None rows = refl
but-labels (Some n) rows = firsts-removed n rows

pub but-length : (gone : Option ℕ) (rows : List RelationRow) → length (rows_but gone rows) ≡ length rows
but-length None rows = refl
but-length (Some n) rows = length-removed n rows

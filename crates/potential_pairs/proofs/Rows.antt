-- Rows that ascend by their names: what they have at a name after changes.
use Rattle.std.proofs.Common.{◌≡◌, ◌≢◌, ◌⊎◌, ◌∙◌, ◌<◌, ◌+◌, ℕ, zero, suc, Bool, true, false, cond, List, [], ◌∷◌, ◌++◌, length, get_or, filter, All, Option, Some, None, refl, sym, ap, inl, inr, arith}
use Rattle.std.specs.BTreeMap.{insert_entry, is_at}
use Rattle.std.specs.Cmp.{tied_itself}
use Rattle.std.specs.List.Sorted.{IsStrictlySortedBy}
use Rattle.std.specs.Map.{keys_of, values_of}
use Rattle.std.proofs.lemmas.List.Elements.{All-head, All-tail}
use Rattle.std.proofs.lemmas.Map.Views.{All-values-insert_entry}
use Rattle.std.specs.Ordering.{is_eq}
use Rattle.std.specs.declared.cmp.Ordering.TheVariants.{Less}
use Rattle.std.proofs.lemmas.List.Kept.{IsStrictlySortedBy-filter}
use Rattle.std.proofs.lemmas.Map.{lookup-none}
use Rattle.std.proofs.lemmas.Map.Entries.{lookup-filter-keys, lookup_head, lookup_tail, none_below_head}
use Rattle.std.proofs.lemmas.Map.Keys.{sorted_tail}
use Rattle.spare_tables.specs.EditLaws.{apart, same_or_not, same_rows, sorted-insert_entry, sorted-without_row, value_put, value_put_other, value_taken, value_taken_other}
use Rattle.spare_tables.specs.KeyLaws.{by_ordering}
use Rattle.spare_tables.specs.Keys.{value_of}
use Rattle.spare_tables.specs.Order.{pair_cmp, pair_exact}
use Rattle.spare_tables.specs.PairLaws.{pair_order}
use Rattle.potential_pairs.specs.Levels.{Ascend, IsDistance}
use Rattle.potential_pairs.specs.Planning.{Found, with_changes, with_value, with_found}
use Rattle.potential_pairs.specs.Potential.{Row}

pub same_name : (x y : ℕ × ℕ) → (x ≡ y) ⊎ (x ≢ y)
same_name = same_or_not pair_order pair_exact

at_same : (q name : ℕ × ℕ) → q ≡ name → is_at (pair_cmp q) name ≡ true
at_same q name same = ap (λ k. is_at (pair_cmp q) k) (sym same) ∙ ap is_eq (tied_itself pair_order q)

at_other : (q name : ℕ × ℕ) → q ≢ name → is_at (pair_cmp q) name ≡ false
at_other = apart pair_order pair_exact

module _ {V : Type 0} where
  -- ---- the first row and the others
  pub value_first : (row : (ℕ × ℕ) × V) (rows : List ((ℕ × ℕ) × V)) (q : ℕ × ℕ) → q ≡ row.0 → value_of pair_cmp (row ∷ rows) q ≡ Some row.1
  value_first row rows q same = lookup_head (is_at (pair_cmp q)) row rows (at_same q row.0 same)

  pub value_later : (row : (ℕ × ℕ) × V) (rows : List ((ℕ × ℕ) × V)) (q : ℕ × ℕ) → q ≢ row.0 → value_of pair_cmp (row ∷ rows) q ≡ value_of pair_cmp rows q
  value_later row rows q other = lookup_tail (is_at (pair_cmp q)) row rows (at_other q row.0 other)

  pub ascend-tail : (row : (ℕ × ℕ) × V) (rows : List ((ℕ × ℕ) × V)) → Ascend (row ∷ rows) → Ascend rows
  ascend-tail row rows sorted = sorted_tail pair_cmp row.0 (keys_of rows) sorted

  -- a name below the first has no value
  pub none_below : (name : ℕ × ℕ) (row : (ℕ × ℕ) × V) (rows : List ((ℕ × ℕ) × V)) → Ascend (row ∷ rows) → pair_cmp name row.0 ≡ Less → value_of pair_cmp (row ∷ rows) name ≡ None
  none_below name row rows sorted less = lookup-none (is_at (pair_cmp name)) (row ∷ rows) (none_below_head pair_order name row rows sorted less)

  -- the first name has no value among the later rows
  pub none_later : (row : (ℕ × ℕ) × V) (rows : List ((ℕ × ℕ) × V)) → Ascend (row ∷ rows) → value_of pair_cmp rows row.0 ≡ None
  unfolding IsStrictlySortedBy
  none_later row [] sorted = refl
  none_later row (next ∷ rows) sorted = none_below row.0 next rows sorted.1 sorted.0.0

  -- a value that is there already changes nothing
  pub put-same : (rows : List ((ℕ × ℕ) × V)) (name : ℕ × ℕ) (v : V) → Ascend rows → value_of pair_cmp rows name ≡ Some v → insert_entry pair_cmp rows name v ≡ rows
  put-same rows name v sorted has = same_rows pair_order pair_exact (insert_entry pair_cmp rows name v) rows (sorted-insert_entry pair_order rows name v sorted) sorted (λ q. elim (same_name q name) [
    | inl here ↦ ap (value_of pair_cmp (insert_entry pair_cmp rows name v)) here ∙ value_put pair_order name v rows ∙ sym (ap (value_of pair_cmp rows) here ∙ has)
    | inr other ↦ value_put_other pair_order pair_exact q name v rows other
  ])

  pub length-put_new : (rows : List ((ℕ × ℕ) × V)) (name : ℕ × ℕ) (v : V) → value_of pair_cmp rows name ≡ None → length (insert_entry pair_cmp rows name v) ≡ length rows + 1
  length-put_new [] name v none = omega arith
  length-put_new (row ∷ rows) name v none = by_ordering (pair_cmp name row.0)
      (λ less. rw less (omega arith))
      (λ equal. let has = value_first row rows name (pair_exact name row.0 equal) in cc)
      (λ greater.
      let rest = length-put_new rows name v (rw greater at none) in
      rw greater (omega (arith, rest)))

  keys-filter : (test : ℕ × ℕ → Bool) (rows : List ((ℕ × ℕ) × V)) → keys_of (filter (λ row. test row.0) rows) ≡ filter test (keys_of rows)
  keys-filter test [] = refl
  keys-filter test (row ∷ rows) = by (test row.0) (keys-filter test rows) where
    by : (passes : Bool) → keys_of (filter (λ (r : (ℕ × ℕ) × V). test r.0) rows) ≡ filter test (keys_of rows)
        → keys_of (cond passes (row ∷ filter (λ (r : (ℕ × ℕ) × V). test r.0) rows) (filter (λ (r : (ℕ × ℕ) × V). test r.0) rows)) ≡ cond passes (row.0 ∷ filter test (keys_of rows)) (filter test (keys_of rows))
    by true rest = ap (λ keys. row.0 ∷ keys) rest
    by false rest = rest

  -- the rows whose names pass a test
  pub value-filter : (test : ℕ × ℕ → Bool) (rows : List ((ℕ × ℕ) × V)) (q : ℕ × ℕ) → value_of pair_cmp (filter (λ row. test row.0) rows) q ≡ cond (test q) (value_of pair_cmp rows q) None
  value-filter test rows q = lookup-filter-keys (is_at (pair_cmp q)) test (test q) (λ k passes. elim (same_name q k) [
    | inl same ↦ ap test (sym same)
    | inr other ↦ let fails = at_other q k other in cc
  ]) rows

  pub ascend-filter : (test : ℕ × ℕ → Bool) (rows : List ((ℕ × ℕ) × V)) → Ascend rows → Ascend (filter (λ row. test row.0) rows)
  ascend-filter test rows sorted = rw (keys-filter test rows) (IsStrictlySortedBy-filter pair_cmp test (keys_of rows) sorted)

  -- ---- one row is set
  pub sorted-with_value : (rows : List ((ℕ × ℕ) × V)) (name : ℕ × ℕ) (v : Option V) → Ascend rows → Ascend (with_value rows name v)
  sorted-with_value rows name None sorted = sorted-without_row pair_order rows name sorted
  sorted-with_value rows name (Some v) sorted = sorted-insert_entry pair_order rows name v sorted

  pub set_here : (rows : List ((ℕ × ℕ) × V)) (name : ℕ × ℕ) (v : Option V) → Ascend rows → value_of pair_cmp (with_value rows name v) name ≡ v
  set_here rows name None sorted = value_taken pair_order name rows sorted
  set_here rows name (Some v) sorted = value_put pair_order name v rows

  pub set_other : (rows : List ((ℕ × ℕ) × V)) (name : ℕ × ℕ) (v : Option V) (q : ℕ × ℕ) → Ascend rows → q ≢ name → value_of pair_cmp (with_value rows name v) q ≡ value_of pair_cmp rows q
  set_other rows name None q sorted other = value_taken_other pair_order pair_exact q name rows sorted other
  set_other rows name (Some v) q sorted other = value_put_other pair_order pair_exact q name v rows other

-- ---- several changes
-- no name stands twice
abbrev pub AreApart : {V : Type 0} → List ((ℕ × ℕ) × V) → Type 0
AreApart [] = Unit {0}
AreApart (row ∷ rows) = (value_of pair_cmp rows row.0 ≡ None) × AreApart rows

pub apart-from_ascend : {V : Type 0} (rows : List ((ℕ × ℕ) × V)) → Ascend rows → AreApart rows
apart-from_ascend [] sorted = tt
apart-from_ascend (row ∷ rows) sorted = (none_later row rows sorted, apart-from_ascend rows (ascend-tail row rows sorted))

module _ {C V : Type 0} (become : C → Option V) where
  pub sorted-with_changes : (changes : List ((ℕ × ℕ) × C)) (rows : List ((ℕ × ℕ) × V)) → Ascend rows → Ascend (with_changes become changes rows)
  sorted-with_changes [] rows sorted = sorted
  sorted-with_changes (change ∷ more) rows sorted =
      sorted-with_changes more (with_value rows change.0 (become change.1)) (sorted-with_value rows change.0 (become change.1) sorted)

  -- what a change makes of a value, where there is one
  abbrev pub changed : Option C → Option V → Option V
  changed None old = old
  changed (Some change) old = become change

  pub value-with_changes : (changes : List ((ℕ × ℕ) × C)) (rows : List ((ℕ × ℕ) × V)) (q : ℕ × ℕ) → AreApart changes → Ascend rows
      → value_of pair_cmp (with_changes become changes rows) q ≡ changed (value_of pair_cmp changes q) (value_of pair_cmp rows q)
  value-with_changes [] rows q apart sorted = refl
  value-with_changes (change ∷ more) rows q apart sorted =
      let now : List ((ℕ × ℕ) × V) = with_value rows change.0 (become change.1) in
      let later = value-with_changes more now q apart.1 (sorted-with_value rows change.0 (become change.1) sorted) in
      elim (same_name q change.0) [
        | inl same ↦
            let none : value_of pair_cmp more q ≡ None = ap (value_of pair_cmp more) same ∙ apart.0 in
            let here : value_of pair_cmp now q ≡ become change.1 = ap (value_of pair_cmp now) same ∙ set_here rows change.0 (become change.1) sorted in
            later ∙ ap (λ found. changed found (value_of pair_cmp now q)) none ∙ here ∙ sym (ap (λ found. changed found (value_of pair_cmp rows q)) (value_first change more q same))
        | inr other ↦
            later ∙ ap (changed (value_of pair_cmp more q)) (set_other rows change.0 (become change.1) q sorted other)
            ∙ sym (ap (λ found. changed found (value_of pair_cmp rows q)) (value_later change more q other))
      ]

  pub with_changes_push : (changes : List ((ℕ × ℕ) × C)) (change : (ℕ × ℕ) × C) (rows : List ((ℕ × ℕ) × V))
      → with_changes become (changes ++ change ∷ []) rows ≡ with_value (with_changes become changes rows) change.0 (become change.1)
  with_changes_push [] change rows = refl
  with_changes_push (first ∷ more) change rows = with_changes_push more change (with_value rows first.0 (become first.1))

-- ---- several found pairs
-- the name of a found pair
abbrev pub name_in : Found → ℕ × ℕ
name_in found = (found.0.0, found.1.0)

pub with_found_push : (found : List Found) (last : Found) (near : List Row) → with_found (found ++ last ∷ []) near ≡ insert_entry pair_cmp (with_found found near) (name_in last) last.2
with_found_push [] last near = refl
with_found_push (first ∷ more) last near = with_found_push more last (insert_entry pair_cmp near (name_in first) first.2)

-- what is near was near, or was found
pub was_found : (found : List Found) (near : List Row) (q : ℕ × ℕ) (v : ℕ) → value_of pair_cmp (with_found found near) q ≡ Some v
    → (value_of pair_cmp near q ≡ Some v) ⊎ ((k : ℕ) × (k < length found) × ((d : Found) → (q ≡ name_in (get_or found k d)) × (v ≡ (get_or found k d).2)))
was_found [] near q v has = inl has
was_found (first ∷ more) near q v has = elim (was_found more (insert_entry pair_cmp near (name_in first) first.2) q v has) [
  | inr found ↦ inr (suc found.0, omega (arith, found.1), found.2)
  | inl earlier ↦ elim (same_name q (name_in first)) [
    | inl same ↦
        let put : value_of pair_cmp (insert_entry pair_cmp near (name_in first) first.2) q ≡ Some first.2 =
        ap (value_of pair_cmp (insert_entry pair_cmp near (name_in first) first.2)) same ∙ value_put pair_order (name_in first) first.2 near in
        let is : v ≡ first.2 = cc in
        inr (zero, omega arith, λ d. (same, is))
    | inr other ↦ inl (sym (value_put_other pair_order pair_exact q (name_in first) first.2 near other) ∙ earlier)
  ]
]

pub shallow-with_changes : (changes rows : List Row) → All IsDistance (values_of changes) → All IsDistance (values_of rows) → All IsDistance (values_of (with_changes Some changes rows))
shallow-with_changes [] rows new old = old
shallow-with_changes (change ∷ more) rows new old =
    shallow-with_changes more (insert_entry pair_cmp rows change.0 change.1) (All-tail IsDistance change.1 (values_of more) new)
    (All-values-insert_entry pair_cmp change.0 change.1 IsDistance rows old (All-head IsDistance change.1 (values_of more) new))

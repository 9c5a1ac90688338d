-- Laws of mappings: what they say once one is set or taken out, and that the tags of a file and the files of a tag
-- say the same.
use Rattle.std.proofs.Common.{◌≡◌, ◌≢◌, ◌⊎◌, ◌↔◌, ◌∙◌, ◌+◌, ◌<◌, ◌==◌, ◌&&◌, ℕ, true, cond, List, [], ◌∷◌, length, get_or, Option, Some, None, refl, sym, ap, inl, inr, arith}
use Rattle.std.specs.BTreeMap.{insert_entry, is_at}
use Rattle.std.specs.Cmp.{IsTotalOrder, nat_cmp_is, nat_cmp_total, tied_itself}
use Rattle.std.specs.List.{AllPairs, Contains}
use Rattle.std.specs.List.Sorted.{IsStrictlySortedBy}
use Rattle.std.specs.Map.{keys_of}
use Rattle.std.specs.Option.{MatchOption, is_some}
use Rattle.std.specs.Ordering.{nat_cmp, ordering_then}
use Rattle.std.specs.declared.cmp.Ordering.{Ordering}
use Rattle.std.specs.declared.cmp.Ordering.TheVariants.{Less, Equal, Greater}
use Rattle.std.proofs.lemmas.Bool.{and_parts, eq-eqb, eqb-true}
use Rattle.std.proofs.lemmas.Cmp.{on_total, then_total}
use Rattle.std.proofs.lemmas.List.{get_or-map, length-map}
use Rattle.std.proofs.lemmas.Map.{lookup-none}
use Rattle.std.proofs.lemmas.Map.Entries.{none_below_head}
use Rattle.std.proofs.lemmas.Map.Keys.{Less-from_sorted, sorted_tail}
use Rattle.media_types.specs.Numbered.{is_past}
use Rattle.media_types.specs.declared.numbers.FileNo.{FileNo}
use Rattle.media_types.specs.declared.numbers.TagNo.{TagNo}
use Rattle.spare_tables.specs.EditLaws.{same_or_not, same_rows, sorted-insert_entry, sorted-without_row, value_put, value_put_other, value_taken, value_taken_other}
use Rattle.spare_tables.specs.KeyLaws.{by_ordering}
use Rattle.spare_tables.specs.Keys.{value_of, without_row}
use Rattle.spare_tables.specs.Order.{file_cmp, file_exact, number_exact, triple_cmp, triple_exact}
use Rattle.spare_tables.specs.PairLaws.{number_says}
use Rattle.tag_types.specs.declared.map_state.MapState.{MapState}
use Rattle.tag_store.specs.Mapped.{Ascend, Row, files_of_tag, first_file_past, first_tag_past, is_past_tag, state_of, tags_of_file, with_state}
use Rattle.tag_store.specs.PickedLaws.{Contains-value, IsFirstFound, first_found, sorted-picked, value-picked}

-- ---- the orders
pub triple_order : IsTotalOrder triple_cmp
triple_order =
    then_total (then_total (on_total (λ (k : ℕ × ℕ × ℕ). k.0) nat_cmp_total) (on_total (λ (k : ℕ × ℕ × ℕ). k.1) nat_cmp_total)) (on_total (λ (k : ℕ × ℕ × ℕ). k.2) nat_cmp_total)

-- tags by their numbers
abbrev pub tag_cmp : TagNo → TagNo → Ordering
tag_cmp x y = nat_cmp x.0 y.0

pub tag_order : IsTotalOrder tag_cmp
tag_order = on_total (λ (tag : TagNo). tag.0) nat_cmp_total

pub file_order : IsTotalOrder file_cmp
file_order = on_total (λ (file : FileNo). file.0) nat_cmp_total

pub tag_exact : (x y : TagNo) → tag_cmp x y ≡ Equal → x ≡ y
tag_exact x y tie =
    let numbered : ℕ → TagNo = λ n. record { 0 = n } in
    ap numbered (number_exact x.0 y.0 tie)

pub same_triple : (x y : ℕ × ℕ × ℕ) → (x ≡ y) ⊎ (x ≢ y)
same_triple = same_or_not triple_order triple_exact

-- ---- a mapping is set or taken out
pub state-this : (rows : List Row) (s t f : ℕ) (state : Option MapState) → Ascend rows → state_of (with_state rows s t f state) s t f ≡ state
state-this rows s t f None sorted = value_taken triple_order (s, t, f) rows sorted
state-this rows s t f (Some state) sorted = value_put triple_order (s, t, f) state rows

pub state-others : (rows : List Row) (s t f : ℕ) (state : Option MapState) (other : ℕ × ℕ × ℕ) → Ascend rows → other ≢ (s, t, f)
    → state_of (with_state rows s t f state) other.0 other.1 other.2 ≡ state_of rows other.0 other.1 other.2
state-others rows s t f None other sorted apart = value_taken_other triple_order triple_exact other (s, t, f) rows sorted apart
state-others rows s t f (Some state) other sorted apart = value_put_other triple_order triple_exact other (s, t, f) state rows apart

pub Ascend-with_state : (rows : List Row) (s t f : ℕ) (state : Option MapState) → Ascend rows → Ascend (with_state rows s t f state)
Ascend-with_state rows s t f None sorted = sorted-without_row triple_order rows (s, t, f) sorted
Ascend-with_state rows s t f (Some state) sorted = sorted-insert_entry triple_order rows (s, t, f) state sorted

-- mappings that say the same of each service, tag and file are the same
pub same-mappings : (rows others : List Row) → Ascend rows → Ascend others → ((s t f : ℕ) → state_of rows s t f ≡ state_of others s t f) → rows ≡ others
same-mappings rows others sorted others_sorted agree = same_rows triple_order triple_exact rows others sorted others_sorted (λ key. agree key.0 key.1 key.2)

-- a mapping that is set to the state that it has changes nothing
pub with_state-same : (rows : List Row) (s t f : ℕ) (state : Option MapState) → Ascend rows → state_of rows s t f ≡ state → with_state rows s t f state ≡ rows
with_state-same rows s t f state sorted has = same-mappings (with_state rows s t f state) rows (Ascend-with_state rows s t f state sorted) sorted (λ a b c.
    let this : ℕ × ℕ × ℕ = (a, b, c) in
    elim (same_triple this (s, t, f)) [
      | inl here ↦
          (λ i. state_of (with_state rows s t f state) (here i).0 (here i).1 (here i).2) ∙ state-this rows s t f state sorted
          ∙ sym has ∙ sym (λ i. state_of rows (here i).0 (here i).1 (here i).2)
      | inr other ↦ state-others rows s t f state this sorted other
    ])

-- one where there is a state
abbrev pub one_if : Option MapState → ℕ
one_if state = cond (is_some state) 1 0

none_before : (key : ℕ × ℕ × ℕ) (row : Row) (rows : List Row) → Ascend (row ∷ rows) → triple_cmp key row.0 ≡ Less → value_of triple_cmp (row ∷ rows) key ≡ None
none_before key row rows sorted less = lookup-none (is_at (triple_cmp key)) (row ∷ rows) (none_below_head triple_order key row rows sorted less)

length-put : (rows : List Row) (key : ℕ × ℕ × ℕ) (state : MapState) → Ascend rows → length (insert_entry triple_cmp rows key state) + one_if (value_of triple_cmp rows key) ≡ length rows + 1
length-put [] key state sorted = omega arith
length-put (row ∷ rows) key state sorted = by_ordering (triple_cmp key row.0)
    (λ less. let none = ap one_if (none_before key row rows sorted less) in rw less (omega (arith, rw less at none)))
    (λ equal. rw equal (omega arith))
    (λ greater. let rest = length-put rows key state (sorted_tail triple_cmp row.0 (keys_of rows) sorted) in rw greater (omega (arith, rest)))

pub length-taken : (rows : List Row) (key : ℕ × ℕ × ℕ) → length (without_row triple_cmp rows key) + one_if (value_of triple_cmp rows key) ≡ length rows
length-taken [] key = omega arith
length-taken (row ∷ rows) key = by_ordering (triple_cmp key row.0)
    (λ less. rw less (omega (arith, length-taken rows key)))
    (λ equal. rw equal (omega arith))
    (λ greater. rw greater (omega (arith, length-taken rows key)))

-- a new mapping is one more, and a known one none; taking one out is one less where it was there
pub length-with_state : (rows : List Row) (s t f : ℕ) (state : Option MapState) → Ascend rows
    → length (with_state rows s t f state) + one_if (state_of rows s t f) ≡ length rows + one_if state
length-with_state rows s t f None sorted = omega (arith, length-taken rows (s, t, f))
length-with_state rows s t f (Some state) sorted = length-put rows (s, t, f) state sorted

-- ---- the tags of a file
ties_not : (answer : Ordering) → ordering_then answer Equal ≡ answer
ties_not Less = refl
ties_not Equal = refl
ties_not Greater = refl

-- of one service and one file the tags decide
of_file : (s f m n : ℕ) → nat_cmp m n ≡ triple_cmp (s, m, f) (s, n, f)
of_file s f m n =
    sym ((λ i. ordering_then (ordering_then (tied_itself nat_cmp_total s i) (nat_cmp m n)) (tied_itself nat_cmp_total f i)) ∙ ties_not (nat_cmp m n))

-- of two first numbers the last ones decide
pub of_two : (a b m n : ℕ) → nat_cmp m n ≡ triple_cmp (a, b, m) (a, b, n)
of_two a b m n = sym (λ i. ordering_then (ordering_then (tied_itself nat_cmp_total a i) (tied_itself nat_cmp_total b i)) (nat_cmp m n))

pub both_same : (a b c d : ℕ) → a == b && c == d ≡ true → (a ≡ b) × (c ≡ d)
both_same a b c d both = let parts = and_parts (a == b) (c == d) both in (eqb-true a b parts.0, eqb-true c d parts.1)

pub both_itself : (a b : ℕ) → a == a && b == b ≡ true
both_itself a b = rw (eq-eqb a a refl, eq-eqb b b refl) refl

module _ (rows : List Row) (s f : ℕ) where
  -- a tag has the state that it is mapped to the file in
  pub value-tags : (t : TagNo) → value_of tag_cmp (tags_of_file rows s f) t ≡ state_of rows s t.0 f
  value-tags = value-picked (λ (k : ℕ × ℕ × ℕ). k.0 == s && k.2 == f) (λ (k : ℕ × ℕ × ℕ). let tag : TagNo = record { 0 = k.1 } in tag) (λ (t : TagNo). (s, t.0, f)) triple_exact
      (λ k both. let same = both_same k.0 s k.2 f both in λ i. (sym same.0 i, k.1, sym same.1 i)) (λ t. both_itself s f) (λ m n. of_file s f m.0 n.0) rows

  pub sorted-tags : Ascend rows → IsStrictlySortedBy tag_cmp (keys_of (tags_of_file rows s f))
  sorted-tags = sorted-picked (λ (k : ℕ × ℕ × ℕ). k.0 == s && k.2 == f) (λ (k : ℕ × ℕ × ℕ). let tag : TagNo = record { 0 = k.1 } in tag) (λ (t : TagNo). (s, t.0, f)) triple_exact
      (λ k both. let same = both_same k.0 s k.2 f both in λ i. (sym same.0 i, k.1, sym same.1 i)) (λ t. both_itself s f) (λ m n. of_file s f m.0 n.0) rows

  -- a tag is among them with a state exactly where it is mapped to the file in that state
  pub Contains-tags : (t : TagNo) (state : MapState) → Ascend rows → Contains (tags_of_file rows s f) (t, state) ↔ (state_of rows s t.0 f ≡ Some state)
  Contains-tags t state sorted =
      let found = Contains-value tag_order tag_exact (tags_of_file rows s f) t state (sorted-tags sorted) in
      (λ there. sym (value-tags t) ∙ found.0 there, λ has. found.1 (value-tags t ∙ has))

  -- they ascend
  pub ascend-tags : Ascend rows → AllPairs (λ (x y : TagNo × MapState). x.0.0 < y.0.0) (tags_of_file rows s f)
  ascend-tags sorted = λ i j d before within.
      let tags : List (TagNo × MapState) = tags_of_file rows s f in
      let long = length-map tags (λ (it : TagNo × MapState). it.0) in
      let less = number_says (get_or (keys_of tags) i d.0).0 (get_or (keys_of tags) j d.0).0 Less (Less-from_sorted tag_cmp (keys_of tags) i j d.0 (sorted-tags sorted) before (omega arith)) in
      let first = ap (λ (t : TagNo). t.0) (get_or-map (λ (it : TagNo × MapState). it.0) tags i d d.0 (omega arith)) in
      let second = ap (λ (t : TagNo). t.0) (get_or-map (λ (it : TagNo × MapState). it.0) tags j d d.0 within) in
      omega (arith, less, first, second)

  -- the first tag after a place, if there is one: it has its state, and no tag between has any
  pub first-tag : (after : Option TagNo) → Ascend rows
      → MatchOption (first_tag_past after (tags_of_file rows s f)) ((t : ℕ) → is_past_tag after t ≡ true → state_of rows s t f ≡ None)
      (λ it. (is_past_tag after it.0.0 ≡ true) × (state_of rows s it.0.0 f ≡ Some it.1) × ((t : ℕ) → is_past_tag after t ≡ true → t < it.0.0 → state_of rows s t f ≡ None))
  first-tag after sorted = by (first_tag_past after (tags_of_file rows s f)) (first_found tag_order tag_exact (λ (it : TagNo). is_past_tag after it.0) (tags_of_file rows s f) (sorted-tags sorted)) where
    by : (found : Option (TagNo × MapState)) → IsFirstFound tag_cmp (λ (it : TagNo). is_past_tag after it.0) (tags_of_file rows s f) found
        → MatchOption found ((t : ℕ) → is_past_tag after t ≡ true → state_of rows s t f ≡ None)
        (λ it. (is_past_tag after it.0.0 ≡ true) × (state_of rows s it.0.0 f ≡ Some it.1) × ((t : ℕ) → is_past_tag after t ≡ true → t < it.0.0 → state_of rows s t f ≡ None))
    by None none = λ t past. sym (value-tags (record { 0 = t })) ∙ none (record { 0 = t }) past
    by (Some it) (past, has, lesser) =
        (past, sym (value-tags it.0) ∙ has, λ t between less. sym (value-tags (record { 0 = t })) ∙ lesser (record { 0 = t }) between (sym (nat_cmp_is t it.0.0 Less less)))

-- ---- the files of a tag
module _ (rows : List Row) (s t : ℕ) where
  -- a file has the state that the tag is mapped to it in
  pub value-files : (f : FileNo) → value_of file_cmp (files_of_tag rows s t) f ≡ state_of rows s t f.0
  value-files = value-picked (λ (k : ℕ × ℕ × ℕ). k.0 == s && k.1 == t) (λ (k : ℕ × ℕ × ℕ). let file : FileNo = record { 0 = k.2 } in file) (λ (f : FileNo). (s, t, f.0)) triple_exact
      (λ k both. let same = both_same k.0 s k.1 t both in λ i. (sym same.0 i, sym same.1 i, k.2)) (λ f. both_itself s t) (λ m n. of_two s t m.0 n.0) rows

  pub sorted-files : Ascend rows → IsStrictlySortedBy file_cmp (keys_of (files_of_tag rows s t))
  sorted-files = sorted-picked (λ (k : ℕ × ℕ × ℕ). k.0 == s && k.1 == t) (λ (k : ℕ × ℕ × ℕ). let file : FileNo = record { 0 = k.2 } in file) (λ (f : FileNo). (s, t, f.0)) triple_exact
      (λ k both. let same = both_same k.0 s k.1 t both in λ i. (sym same.0 i, sym same.1 i, k.2)) (λ f. both_itself s t) (λ m n. of_two s t m.0 n.0) rows

  -- a file is among them with a state exactly where the tag is mapped to it in that state
  pub Contains-files : (f : FileNo) (state : MapState) → Ascend rows → Contains (files_of_tag rows s t) (f, state) ↔ (state_of rows s t f.0 ≡ Some state)
  Contains-files f state sorted =
      let found = Contains-value file_order file_exact (files_of_tag rows s t) f state (sorted-files sorted) in
      (λ there. sym (value-files f) ∙ found.0 there, λ has. found.1 (value-files f ∙ has))

  -- they ascend
  pub ascend-files : Ascend rows → AllPairs (λ (x y : FileNo × MapState). x.0.0 < y.0.0) (files_of_tag rows s t)
  ascend-files sorted = λ i j d before within.
      let files : List (FileNo × MapState) = files_of_tag rows s t in
      let long = length-map files (λ (it : FileNo × MapState). it.0) in
      let less = number_says (get_or (keys_of files) i d.0).0 (get_or (keys_of files) j d.0).0 Less (Less-from_sorted file_cmp (keys_of files) i j d.0 (sorted-files sorted) before (omega arith)) in
      let first = ap (λ (f : FileNo). f.0) (get_or-map (λ (it : FileNo × MapState). it.0) files i d d.0 (omega arith)) in
      let second = ap (λ (f : FileNo). f.0) (get_or-map (λ (it : FileNo × MapState). it.0) files j d d.0 within) in
      omega (arith, less, first, second)

  -- the first file after a place, if there is one: it has its state, and no file between has any
  pub first-file : (after : Option FileNo) → Ascend rows
      → MatchOption (first_file_past after (files_of_tag rows s t)) ((f : ℕ) → is_past after f ≡ true → state_of rows s t f ≡ None)
      (λ it. (is_past after it.0.0 ≡ true) × (state_of rows s t it.0.0 ≡ Some it.1) × ((f : ℕ) → is_past after f ≡ true → f < it.0.0 → state_of rows s t f ≡ None))
  first-file after sorted = by (first_file_past after (files_of_tag rows s t)) (first_found file_order file_exact (λ (it : FileNo). is_past after it.0) (files_of_tag rows s t) (sorted-files sorted)) where
    by : (found : Option (FileNo × MapState)) → IsFirstFound file_cmp (λ (it : FileNo). is_past after it.0) (files_of_tag rows s t) found
        → MatchOption found ((f : ℕ) → is_past after f ≡ true → state_of rows s t f ≡ None)
        (λ it. (is_past after it.0.0 ≡ true) × (state_of rows s t it.0.0 ≡ Some it.1) × ((f : ℕ) → is_past after f ≡ true → f < it.0.0 → state_of rows s t f ≡ None))
    by None none = λ f past. sym (value-files (record { 0 = f })) ∙ none (record { 0 = f }) past
    by (Some it) (past, has, lesser) =
        (past, sym (value-files it.0) ∙ has, λ f between less. sym (value-files (record { 0 = f })) ∙ lesser (record { 0 = f }) between (sym (nat_cmp_is f it.0.0 Less less)))

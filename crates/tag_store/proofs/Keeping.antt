-- Mappings that are kept in two orders say the same, also once one is set.
use Rattle.std.proofs.Common.{◌≡◌, ◌∙◌, ◌<◌, ◌^◌, ◌==◌, ◌&&◌, ℕ, Bool, List, [], ◌∷◌, Option, Some, None, find, filter, map, refl, sym, ap, inl, inr}
use Rattle.std.specs.List.{All}
use Rattle.std.specs.List.Sorted.{IsStrictlySortedBy}
use Rattle.std.specs.BTreeMap.{is_at}
use Rattle.std.specs.Map.{keys_of}
use Rattle.std.specs.Option.{option_map}
use Rattle.std.proofs.lemmas.Bool.{cases_Bool}
use Rattle.std.proofs.lemmas.Map.Views.{All-keys-insert_entry, All-map-remove_entry}
use Rattle.media_types.specs.declared.numbers.TagNo.{TagNo}
use Rattle.spare_tables.specs.EditLaws.{same_rows}
use Rattle.spare_tables.specs.Keys.{value_of}
use Rattle.spare_tables.specs.Order.{triple_cmp, triple_exact}
use Rattle.tag_types.specs.declared.map_state.MapState.{MapState}
use Rattle.tag_store.specs.Lasts.{IsShort, lasts}
use Rattle.tag_store.specs.Mapped.{Ascend, Row, files_of_tag, numbered_file, numbered_tag, state_of, tags_of_file, with_state}
use Rattle.tag_store.specs.MappedLaws.{Ascend-with_state, same_triple, sorted-tags, state-others, state-this, tag_cmp, tag_exact, tag_order, value-tags, both_itself, both_same, of_two}
use Rattle.tag_store.specs.Mirrored.{AreMirrored}
use Rattle.tag_store.specs.PickedLaws.{sorted-picked, value-picked}

-- ---- one is set in both orders
short-set : (rows : List Row) (s t f : ℕ) (state : Option MapState) → f < 2 ^ 32 → All IsShort (keys_of rows) → All IsShort (keys_of (with_state rows s t f state))
short-set rows s t f None below short = All-map-remove_entry (is_at (triple_cmp (s, t, f))) (λ (row : Row). row.0) IsShort rows short
short-set rows s t f (Some state) below short = All-keys-insert_entry triple_cmp (s, t, f) state IsShort rows short below

pub mirrored-set : (rows others : List Row) (s t f : ℕ) (state : Option MapState) → t < 2 ^ 32 → f < 2 ^ 32 → AreMirrored rows others → AreMirrored (with_state rows s t f state) (with_state others s f t state)
mirrored-set rows others s t f state tag file kept = record {
  sorted = Ascend-with_state rows s t f state kept.sorted;
  others_sorted = Ascend-with_state others s f t state kept.others_sorted;
  short = short-set rows s t f state file kept.short;
  others_short = short-set others s f t state tag kept.others_short;
  same = λ a b c.
      let this : ℕ × ℕ × ℕ = (a, b, c) in
      let turned : ℕ × ℕ × ℕ = (a, c, b) in
      elim (same_triple this (s, t, f)) [
        | inl here ↦
            (λ i. state_of (with_state others s f t state) (here i).0 (here i).2 (here i).1) ∙ state-this others s f t state kept.others_sorted
            ∙ sym (state-this rows s t f state kept.sorted)
            ∙ sym (λ i. state_of (with_state rows s t f state) (here i).0 (here i).1 (here i).2)
        | inr other ↦
            state-others others s f t state turned kept.others_sorted (λ same. other (λ i. ((same i).0, (same i).2, (same i).1)))
            ∙ kept.same a b c
            ∙ sym (state-others rows s t f state this kept.sorted other)
      ];
}

-- ---- the tags of a file, by the rows in the other order
-- the last numbers as tags
abbrev last_tags : ℕ → ℕ → List Row → List (TagNo × MapState)
last_tags s f others = map (λ (row : Row). numbered_tag (row.0.2, row.1)) (filter (λ (row : Row). row.0.0 == s && row.0.1 == f) others)

module _ (others : List Row) (s f : ℕ) where
  value-last : (t : TagNo) → value_of tag_cmp (last_tags s f others) t ≡ state_of others s f t.0
  value-last = value-picked (λ (k : ℕ × ℕ × ℕ). k.0 == s && k.1 == f) (λ (k : ℕ × ℕ × ℕ). let tag : TagNo = record { 0 = k.2 } in tag) (λ (t : TagNo). (s, f, t.0)) triple_exact
      (λ k both. let same = both_same k.0 s k.1 f both in λ i. (sym same.0 i, sym same.1 i, k.2)) (λ t. both_itself s f) (λ m n. of_two s f m.0 n.0) others

  sorted-last : Ascend others → IsStrictlySortedBy tag_cmp (keys_of (last_tags s f others))
  sorted-last = sorted-picked (λ (k : ℕ × ℕ × ℕ). k.0 == s && k.1 == f) (λ (k : ℕ × ℕ × ℕ). let tag : TagNo = record { 0 = k.2 } in tag) (λ (t : TagNo). (s, f, t.0)) triple_exact
      (λ k both. let same = both_same k.0 s k.1 f both in λ i. (sym same.0 i, sym same.1 i, k.2)) (λ t. both_itself s f) (λ m n. of_two s f m.0 n.0) others

map-twice : {X Y Z : Type 0} (f : X → Y) (g : Y → Z) (xs : List X) → map (λ x. g (f x)) xs ≡ map g (map f xs)
map-twice f g [] = refl
map-twice f g (x ∷ xs) = ap (λ rest. g (f x) ∷ rest) (map-twice f g xs)

-- the tags of a file are the last numbers of the rows in the other order
pub tags-last : (rows others : List Row) (s f : ℕ) → AreMirrored rows others → tags_of_file rows s f ≡ map numbered_tag (lasts s f others)
tags-last rows others s f kept =
    same_rows tag_order tag_exact (tags_of_file rows s f) (last_tags s f others) (sorted-tags rows s f kept.sorted) (sorted-last others s f kept.others_sorted)
    (λ t. value-tags rows s f t ∙ sym (kept.same s t.0 f) ∙ sym (value-last others s f t))
    ∙ map-twice (λ (row : Row). (row.0.2, row.1)) numbered_tag (filter (λ (row : Row). row.0.0 == s && row.0.1 == f) others)

-- the files of a tag are the last numbers of the rows
pub files-last : (rows : List Row) (s t : ℕ) → files_of_tag rows s t ≡ map numbered_file (lasts s t rows)
files-last rows s t = map-twice (λ (row : Row). (row.0.2, row.1)) numbered_file (filter (λ (row : Row). row.0.0 == s && row.0.1 == t) rows)

-- ---- the first after a place
pub find-map : {X Y : Type 0} (f : X → Y) (test : Y → Bool) (xs : List X) → find test (map f xs) ≡ option_map f (find (λ x. test (f x)) xs)
find-map f test [] = refl
find-map f test (x ∷ xs) = elim (cases_Bool (test (f x))) [ inl passes ↦ rw passes refl | inr fails ↦ rw fails (find-map f test xs) ]

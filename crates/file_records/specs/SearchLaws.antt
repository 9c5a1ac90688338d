-- Searches of files: what one does to each row, and that it is enough to search those whose distance rises.
use Rattle.std.proofs.Common.{◌≡◌, ◌≢◌, ◌↔◌, ◌<◌, ◌+◌, ◌==◌, ◌&&◌, ◌||◌, ℕ, zero, suc, max, Bool, true, false, if◌then◌else◌, nat_lt, Option, Some, None, List, [], ◌∷◌, ◌++◌, length, get_or, slice_get, refl, ap, sym, ◌∙◌, arith}
use Rattle.std.specs.List.{All}
use Rattle.std.specs.Option.{option_map, option_map_or}
use Rattle.std.proofs.lemmas.Bool.{ltb-false, le-ltb, ne_eqb, and_right, or_from}
use Rattle.std.proofs.lemmas.List.Elements.{All-filter}
use Rattle.std.proofs.lemmas.List.Folds.{list_any-append}
use Rattle.std.proofs.lemmas.List.Kept.{AllPairs-filter}
use Rattle.std.proofs.lemmas.Option.{same_Some, slice_get_past}
use Rattle.media_types.specs.Numbered.{files}
use Rattle.media_types.specs.declared.hash.Hash64.{Hash64}
use Rattle.media_types.specs.declared.numbers.FileNo.{FileNo}
use Rattle.file_records.specs.declared.file_row.FileRow.{FileRow}
use Rattle.file_records.specs.Lookup.{AreDistinct}
use Rattle.file_records.specs.Searching.{is_named, is_short_of, passes, raised, rising, searched, searched_from}
use Rattle.file_records.specs.Words.{new_words, words_of, words_with}
use Rattle.file_records.specs.AscendingLaws.{Ascend, file_of, files_ascend, files_known, filter_none, named_in_files, named_in_filter}
use Rattle.spare_tables.specs.KeyLaws.{by_test}

-- ---- the rows one by one
-- the row of a file, once the named files are searched
abbrev pub after : ℕ → Bool → FileRow → FileRow
after d named row = if named then raised d row else row

each_from : (d n : ℕ) (named : List FileNo) (rows : List FileRow) (k j : ℕ) → n + k ≡ j →
    slice_get (searched_from n d named rows) k ≡ option_map (after d (is_named named j)) (slice_get rows k)
each_from d n named [] k j at = refl
each_from d n named (row ∷ rows) zero j at = let here : n ≡ j = omega (arith, at) in ap (λ m. Some (after d (is_named named m) row)) here
each_from d n named (row ∷ rows) (suc k) j at = each_from d (suc n) named rows k j (omega (arith, at))

pub each : (d : ℕ) (named : List FileNo) (rows : List FileRow) (k : ℕ) →
    slice_get (searched d named rows) k ≡ option_map (after d (is_named named k)) (slice_get rows k)
unfolding searched
each d named rows k = each_from d 0 named rows k k (omega arith)

-- two lists are equal where all places are
pub same_places : {X : Type 0} (xs ys : List X) → ((k : ℕ) → slice_get xs k ≡ slice_get ys k) → xs ≡ ys
same_places [] [] same = refl
same_places [] (y ∷ ys) same = let here = same 0 in absurd (cc)
same_places (x ∷ xs) [] same = let here = same 0 in absurd (cc)
same_places (x ∷ xs) (y ∷ ys) same =
    ap (λ z. z ∷ xs) (same_Some x y (same 0)) ∙ ap (λ zs. y ∷ zs) (same_places xs ys (λ k. same (suc k)))

-- ---- a row that is searched
twice : (d : ℕ) (searched : Option ℕ) → max d (option_map_or (max d) searched d) ≡ option_map_or (max d) searched d
twice d None = omega arith
twice d (Some s) = omega arith

raised_twice : (d : ℕ) (row : FileRow) → raised d (raised d row) ≡ raised d row
raised_twice d row = ap (λ s. record row { searched = Some s }) (twice d row.searched)

far_enough : (d : ℕ) (searched : Option ℕ) → option_map_or (λ s. nat_lt s d) searched true ≡ false → Some (option_map_or (max d) searched d) ≡ searched
far_enough d None short = absurd (cc)
far_enough d (Some s) far = let le = ltb-false s d far in ap Some (omega (arith, le))

pub stays : (d : ℕ) (row : FileRow) → is_short_of d row ≡ false → raised d row ≡ row
stays d row far = ap (λ s. record row { searched = s }) (far_enough d row.searched far)

-- ---- one file after the other
after_both : (d : ℕ) (first next : Bool) (row : FileRow) → after d next (after d first row) ≡ after d (first || next) row
after_both d false next row = refl
after_both d true false row = refl
after_both d true true row = raised_twice d row

both_at : (d : ℕ) (first next : Bool) (row : Option FileRow) → option_map (after d next) (option_map (after d first) row) ≡ option_map (after d (first || next)) row
both_at d first next None = refl
both_at d first next (Some row) = ap Some (after_both d first next row)

pub one_more : (d : ℕ) (named : List FileNo) (file : FileNo) (rows : List FileRow) →
    searched d (file ∷ []) (searched d named rows) ≡ searched d (named ++ file ∷ []) rows
one_more d named file rows =
    let some = file ∷ [] in
    same_places (searched d some (searched d named rows)) (searched d (named ++ some) rows) (λ k.
    each d some (searched d named rows) k
    ∙ ap (option_map (after d (is_named some k))) (each d named rows k)
    ∙ both_at d (is_named named k) (is_named some k) (slice_get rows k)
    ∙ ap (λ b. option_map (after d b) (slice_get rows k)) (sym (list_any-append (λ f. f.0 == k) named some))
    ∙ sym (each d (named ++ some) rows k))

pub unchanged : (row : Option FileRow) → option_map (λ r. r) row ≡ row
unchanged None = refl
unchanged (Some row) = refl

pub none : (d : ℕ) (rows : List FileRow) → searched d [] rows ≡ rows
none d rows = same_places (searched d [] rows) rows (λ k. each d [] rows k ∙ unchanged (slice_get rows k))

pub others : (d : ℕ) (file : FileNo) (rows : List FileRow) (k : ℕ) → k ≢ file.0 → slice_get (searched d (file ∷ []) rows) k ≡ slice_get rows k
others d file rows k other =
    each d (file ∷ []) rows k
    ∙ ap (λ b. option_map (after d b) (slice_get rows k)) (or_from _ false (ne_eqb file.0 k (λ same. other (sym same))) refl)
    ∙ unchanged (slice_get rows k)

-- ---- those that rise
within_files : (test : FileRow → Bool) (rows : List FileRow) (k : ℕ) (b : Bool) → (nat_lt k (length rows) && (b && passes test rows k)) ≡ (b && passes test rows k)
within_files test rows k b = by_test (nat_lt k (length rows))
    (λ below. ap (λ c. c && (b && passes test rows k)) below)
    (λ past. let missing = ap (λ row. option_map_or test row false) (slice_get_past rows k (ltb-false k (length rows) past)) in
    ap (λ c. c && (b && passes test rows k)) past ∙ sym (and_right b _ missing))

pub named_in_rising : (d : ℕ) (named : List FileNo) (rows : List FileRow) (k : ℕ) →
    is_named (rising d named rows) k ≡ (is_named named k && passes (is_short_of d) rows k)
unfolding rising
named_in_rising d named rows k =
    let test : FileNo → Bool = λ f. is_named named f.0 && passes (is_short_of d) rows f.0 in
    named_in_filter test (files (length rows)) k
    ∙ ap (λ b. b && test (file_of k)) (named_in_files (length rows) k)
    ∙ within_files (is_short_of d) rows k (is_named named k)

spared : (d : ℕ) (named short : Bool) (row : FileRow) → is_short_of d row ≡ short → after d (named && short) row ≡ after d named row
spared d false short row is = refl
spared d true true row is = refl
spared d true false row is = sym (stays d row is)

spared_at : (d : ℕ) (named : Bool) (row : Option FileRow) →
    option_map (after d (named && option_map_or (is_short_of d) row false)) row ≡ option_map (after d named) row
spared_at d named None = refl
spared_at d named (Some row) = ap Some (spared d named (is_short_of d row) row refl)

pub enough : (d : ℕ) (named : List FileNo) (rows : List FileRow) → searched d (rising d named rows) rows ≡ searched d named rows
enough d named rows = same_places (searched d (rising d named rows) rows) (searched d named rows) (λ k.
    each d (rising d named rows) rows k
    ∙ ap (λ b. option_map (after d b) (slice_get rows k)) (named_in_rising d named rows k)
    ∙ spared_at d (is_named named k) (slice_get rows k)
    ∙ sym (each d named rows k))

-- a row that a search leaves as it was isn't short
not_short : (d : ℕ) (searched : Option ℕ) → Some (option_map_or (max d) searched d) ≡ searched → option_map_or (λ s. nat_lt s d) searched true ≡ false
not_short d None same = absurd (cc)
not_short d (Some s) same = let most = same_Some (max d s) s same in le-ltb s d (omega (arith, most))

still : (d : ℕ) (named : Bool) (row : FileRow) → after d named row ≡ row → (named && is_short_of d row) ≡ false
still d false row same = refl
still d true row same = not_short d row.searched (ap (λ r. r.searched) same)

still_at : (d : ℕ) (named : Bool) (row : Option FileRow) → option_map (after d named) row ≡ row → (named && option_map_or (is_short_of d) row false) ≡ false
still_at d named None same = and_right named false refl
still_at d named (Some row) same = still d named row (same_Some (after d named row) row same)

nothing_rises : (d : ℕ) (named : List FileNo) (rows : List FileRow) → searched d named rows ≡ rows → rising d named rows ≡ []
unfolding rising
nothing_rises d named rows same = filter_none (λ f. is_named named f.0 && passes (is_short_of d) rows f.0) (files (length rows)) (λ f.
    still_at d (is_named named f.0) (slice_get rows f.0) (sym (each d named rows f.0) ∙ ap (λ rs. slice_get rs f.0) same))

pub changes : (d : ℕ) (named : List FileNo) (rows : List FileRow) → (rising d named rows ≡ []) ↔ (searched d named rows ≡ rows)
changes d named rows = (
  λ nothing. sym (enough d named rows) ∙ ap (λ fs. searched d fs rows) nothing ∙ none d rows,
  nothing_rises d named rows,
)

pub rising_ascends : (d : ℕ) (named : List FileNo) (rows : List FileRow) → Ascend (rising d named rows)
unfolding rising
rising_ascends d named rows =
    AllPairs-filter (λ a b. a.0 < b.0) (λ f. is_named named f.0 && passes (is_short_of d) rows f.0) (files (length rows)) (files_ascend (length rows))

pub known : (d : ℕ) (named : List FileNo) (rows : List FileRow) → All (λ f. f.0 < length rows) (rising d named rows)
unfolding rising
known d named rows =
    let test : FileNo → Bool = λ f. is_named named f.0 && passes (is_short_of d) rows f.0 in
    let P : FileNo → Type 0 = λ f. f.0 < length rows in
    All-filter test P (files (length rows)) (files_known (length rows))

-- ---- what stays
length_from : (d n : ℕ) (named : List FileNo) (rows : List FileRow) → length (searched_from n d named rows) ≡ length rows
length_from d n named [] = refl
length_from d n named (row ∷ rows) = ap suc (length_from d (suc n) named rows)

pub same_length : (d : ℕ) (named : List FileNo) (rows : List FileRow) → length (searched d named rows) ≡ length rows
unfolding searched
same_length d named rows = length_from d 0 named rows

-- what a search leaves of a row, whether it is named or not
pub kept : {X : Type 0} (part : FileRow → X) (d : ℕ) → ((row : FileRow) → part (raised d row) ≡ part row) → (named : Bool) (row : FileRow) → part (after d named row) ≡ part row
kept part d same true row = same row
kept part d same false row = refl

part_from : {X : Type 0} (part : FileRow → X) (d : ℕ) → ((row : FileRow) → part (raised d row) ≡ part row) →
    (n : ℕ) (named : List FileNo) (rows : List FileRow) (k : ℕ) (e : FileRow) → part (get_or (searched_from n d named rows) k e) ≡ part (get_or rows k e)
part_from part d same n named [] k e = refl
part_from part d same n named (row ∷ rows) zero e = kept part d same (is_named named n) row
part_from part d same n named (row ∷ rows) (suc k) e = part_from part d same (suc n) named rows k e

sha_at : (d : ℕ) (named : List FileNo) (rows : List FileRow) (k : ℕ) (e : FileRow) → (get_or (searched d named rows) k e).sha ≡ (get_or rows k e).sha
unfolding searched
sha_at d named rows k e = part_from (λ r. r.sha) d (λ r. refl) 0 named rows k e

pub hashes_at : (d : ℕ) (named : List FileNo) (rows : List FileRow) (k : ℕ) (e : FileRow) → (get_or (searched d named rows) k e).hashes ≡ (get_or rows k e).hashes
unfolding searched
hashes_at d named rows k e = part_from (λ r. r.hashes) d (λ r. refl) 0 named rows k e

pub distinct : (d : ℕ) (named : List FileNo) (rows : List FileRow) → AreDistinct rows → AreDistinct (searched d named rows)
distinct d named rows apart = λ i j e before within same.
    apart i j e before (omega (arith, within, same_length d named rows)) (sym (sha_at d named rows i e) ∙ same ∙ sha_at d named rows j e)

words_from : (d n : ℕ) (named : List FileNo) (rows : List FileRow) (words : List Hash64) → words_with words (searched_from n d named rows) ≡ words_with words rows
words_from d n named [] words = refl
words_from d n named (row ∷ rows) words =
    ap (λ hashes. words_with (words ++ new_words words hashes) (searched_from (suc n) d named rows)) (kept (λ r. r.hashes) d (λ r. refl) (is_named named n) row)
    ∙ words_from d (suc n) named rows (words ++ new_words words row.hashes)

pub words : (d : ℕ) (named : List FileNo) (rows : List FileRow) → words_of (searched d named rows) ≡ words_of rows
unfolding searched words_of
words d named rows = words_from d 0 named rows []

-- Each hash of a file has a number by which the file is found, and each number leads to a file.
use Rattle.std.proofs.Common.{◌≡◌, ◌<◌, ◌⊎◌, ◌-◌, ◌==◌, ◌∙◌, ℕ, Bool, zero, suc, true, false, List, [], ◌∷◌, ◌++◌, length, length-append, get_or, Contains, Option, Some, None, slice_get, refl, ap, sym, subst, inl, inr, arith}
use Rattle.std.specs.List.{All, position_or_len}
use Rattle.std.specs.Option.{option_map_or}
use Rattle.std.proofs.lemmas.Bool.{cases_lt, cases_order, false≢true, eq-eqb, eqb-true}
use Rattle.std.proofs.lemmas.List.{get_or_append_left, get_or-append_right, get_or_default}
use Rattle.std.proofs.lemmas.List.Elements.{All-cons, All-contains, All-get_or, All-nil, All-weaker}
use Rattle.std.proofs.lemmas.List.Folds.{list_any_at}
use Rattle.std.proofs.lemmas.List.Quantifiers.{position-Some}
use Rattle.std.proofs.lemmas.Option.{get_or_from_slice_get, slice_get-get_or, slice_get_within}
use Rattle.media_types.specs.declared.hash.Hash64.{Hash64}
use Rattle.file_records.specs.declared.file_row.FileRow.{FileRow}
use Rattle.file_records.specs.Near.{hashes_at}
use Rattle.file_records.specs.Words.{AreDistinctWords, has_hash, has_number, is_among, new_words, number_of, words_of, words_with}
use Rattle.file_records.specs.NumberLaws.{all_among, first_kept, there_at_first}
use Rattle.file_records.specs.WordLaws.{words_are_distinct}
use Rattle.spare_tables.specs.KeyLaws.{by_test}

-- ---- the number of a hash
number_at : (words : List Hash64) (hash : Hash64) → is_among words hash ≡ true → (h : ℕ) × (number_of hash words ≡ Some h) × (slice_get words h ≡ Some hash)
number_at words hash there =
    let h = position_or_len (λ (w : Hash64). w.0 == hash.0) words in
    let is : number_of hash words ≡ Some h = there_at_first (λ w. w.0 == hash.0) words (first_kept (λ w. w.0 == hash.0) words [] there).1 in
    let first = position-Some (λ (w : Hash64). w.0 == hash.0) words h hash is in
    (h, is, slice_get-get_or words h hash first.0 ∙ ap (λ (n : ℕ). Some (record { 0 = n })) (eqb-true (get_or words h hash).0 hash.0 first.1))

has_at : (words hashes : List Hash64) (hash : Hash64) (h : ℕ) → Contains hashes hash → number_of hash words ≡ Some h → has_number words h hashes ≡ true
has_at words hashes hash h member is =
    let test : Hash64 → Bool = λ w. option_map_or (λ n. n == h) (number_of w words) false in
    list_any_at test hashes member.0 hash member.1 (ap test member.2 ∙ ap (λ n. option_map_or (λ m. m == h) n false) is ∙ eq-eqb h h refl)

numbered_row : (files : List FileRow) (k : ℕ) (hash : Hash64) (row : Option FileRow) → slice_get files k ≡ row → Contains (option_map_or (λ r. r.hashes) row []) hash
    → (h : ℕ) × (slice_get (words_of files) h ≡ Some hash) × (has_hash h files k ≡ true)
numbered_row files k hash None is member = absurd (omega (arith, member.1))
numbered_row files k hash (Some row) is member =
    let words = words_of files in
    let same = get_or_from_slice_get files k row row is in
    let among = subst (λ (r : FileRow). All (λ w. is_among words w ≡ true) r.hashes) same (all_among files k row (slice_get_within files k row is)) in
    let there = number_at words hash (All-contains (λ w. is_among words w ≡ true) row.hashes hash among member) in
    (there.0, there.2, ap (λ r. option_map_or (λ file. has_number words there.0 file.hashes) r false) is ∙ has_at words row.hashes hash there.0 member there.1)

pub numbered : (files : List FileRow) (k : ℕ) (hash : Hash64) → Contains (hashes_at files k) hash → (h : ℕ) × (slice_get (words_of files) h ≡ Some hash) × (has_hash h files k ≡ true)
numbered files k hash member = numbered_row files k hash (slice_get files k) refl member

-- ---- the files of a number
new_words_of : (words hashes : List Hash64) → All (Contains hashes) (new_words words hashes)
new_words_of words [] = All-nil (Contains [])
new_words_of words (hash ∷ hashes) =
    let later = λ (more : List Hash64). All-weaker (Contains hashes) (Contains (hash ∷ hashes)) (λ w member. (suc member.0, omega (arith, member.1), member.2)) (new_words more hashes) (new_words_of more hashes) in
    by_test (is_among words hash)
    (λ there. rw there (later words))
    (λ missing. rw missing (All-cons (Contains (hash ∷ hashes)) hash _ (zero, omega arith, refl) (later (words ++ hash ∷ []))))

word_stays : (words : List Hash64) (files : List FileRow) (h : ℕ) (d : Hash64) → h < length words → get_or (words_with words files) h d ≡ get_or words h d
word_stays words [] h d within = refl
word_stays words (file ∷ files) h d within =
    let new = new_words words file.hashes in
    word_stays (words ++ new) files h d (omega (arith, length-append words new)) ∙ get_or_append_left words new d h within

-- the word was there before, or is a hash of one of the files
brought : (words : List Hash64) (files : List FileRow) (h : ℕ) (d : Hash64) → h < length (words_with words files)
    → (h < length words) ⊎ ((k : ℕ) × Contains (hashes_at files k) (get_or (words_with words files) h d))
brought words [] h d within = inl within
brought words (file ∷ files) h d within =
    let new = new_words words file.hashes in
    elim (brought (words ++ new) files h d within) [
      | inr later ↦ inr (suc later.0, later.1)
      | inl here ↦ elim (cases_lt h (length words)) [
        | inl before ↦ inl before
        | inr from ↦
            let long = length-append words new in
            let word = word_stays (words ++ new) files h d here ∙ get_or-append_right words new (length words) h d refl from in
            inr (zero, subst (Contains file.hashes) (sym word) (All-get_or (Contains file.hashes) new (h - length words) d (omega arith) (new_words_of words file.hashes)))
      ]
    ]

same_number : (words : List Hash64) (h n : ℕ) (hash : Hash64) → AreDistinctWords words → h < length words → get_or words h hash ≡ hash → slice_get words n ≡ Some hash → n ≡ h
same_number words h n hash distinct within at is =
    let other = get_or_from_slice_get words n hash hash is in
    elim (cases_order n h) [
      | inl same ↦ same
      | inr (inl less) ↦ absurd (distinct n h hash less within (other ∙ sym at))
      | inr (inr greater) ↦ absurd (distinct h n hash greater (slice_get_within words n hash is) (at ∙ sym other))
    ]

known_file : (h k : ℕ) (files : List FileRow) (row : Option FileRow) → slice_get files k ≡ row → option_map_or (λ r. has_number (words_of files) h r.hashes) row false ≡ true → k < length files
known_file h k files None is has = absurd (false≢true has)
known_file h k files (Some row) is has = slice_get_within files k row is

pub held : (files : List FileRow) (h : ℕ) → h < length (words_of files) → (k : ℕ) × (k < length files) × (has_hash h files k ≡ true)
unfolding words_of
held files h within =
    let d : Hash64 = record { 0 = 0 } in
    let hash = get_or (words_of files) h d in
    elim (brought [] files h d within) [
      | inl none ↦ absurd (omega arith)
      | inr from ↦
          let found = numbered files from.0 hash from.1 in
          let same = same_number (words_of files) h found.0 hash (words_are_distinct files) within (get_or_default (words_of files) h hash d within) found.1 in
          let has : has_hash h files from.0 ≡ true = ap (λ n. has_hash n files from.0) (sym same) ∙ found.2 in
          (from.0, known_file h from.0 files (slice_get files from.0) refl has, has)
    ]

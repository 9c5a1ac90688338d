-- The numbers of hashes: later files keep them, and the hashes of the files all have one.
use Rattle.std.proofs.Common.{◌≡◌, ◌≤◌, ◌<◌, ◌+◌, ◌==◌, ◌||◌, ℕ, Bool, true, false, cond, Option, Some, None, List, [], ◌∷◌, ◌++◌, length, length-append, append_assoc, refl, ap, sym, ◌∙◌, arith}
use Rattle.std.specs.List.{All, position, position_or_len, list_any}
use Rattle.std.specs.Option.{is_some, option_map, option_map_or}
use Rattle.std.proofs.lemmas.Bool.{or_left, or_right, eq-eqb, lt-ltb, le-ltb}
use Rattle.std.proofs.lemmas.List.Elements.{All-nil, All-cons, All-head, All-tail, All-weaker}
use Rattle.std.proofs.lemmas.List.Folds.{list_any-append}
use Rattle.media_types.specs.declared.hash.Hash64.{Hash64}
use Rattle.media_types.specs.declared.numbers.HashNo.{HashNo}
use Rattle.file_records.specs.declared.file_row.FileRow.{FileRow}
use Rattle.file_records.specs.Words.{is_among, new_words, words_with, words_of, number_of, has_number}
use Rattle.spare_tables.specs.KeyLaws.{by_test}

-- ---- words that are there stay, with their numbers
pub among_kept : (words more : List Hash64) (word : Hash64) → is_among words word ≡ true → is_among (words ++ more) word ≡ true
among_kept words more word there = list_any-append (λ w. w.0 == word.0) words more ∙ or_left _ _ there

pub first_kept : (test : Hash64 → Bool) (words more : List Hash64) → list_any test words ≡ true →
    (position_or_len test (words ++ more) ≡ position_or_len test words) × (position_or_len test words < length words)
first_kept test [] more there = absurd (cc)
first_kept test (word ∷ words) more there = by_test (test word)
    (λ passes. rw passes (refl, omega arith))
    (λ fails. let rest = first_kept test words more (rw fails at there) in rw fails (ap (λ n. 1 + n) rest.0, omega (arith, rest.1)))

pub there_at_first : (test : Hash64 → Bool) (words : List Hash64) → position_or_len test words < length words → position test words ≡ Some (position_or_len test words)
there_at_first test words within = ap (λ b. cond b (Some (position_or_len test words)) None) (lt-ltb _ _ within)

pub number_kept : (words more : List Hash64) (word : Hash64) → is_among words word ≡ true → number_of word (words ++ more) ≡ number_of word words
number_kept words more word there =
    let test : Hash64 → Bool = λ w. w.0 == word.0 in
    let first = first_kept test words more there in
    there_at_first test (words ++ more) (omega (arith, first.0, first.1, length-append words more))
    ∙ ap Some first.0 ∙ sym (there_at_first test words first.1)

-- ---- a hash has a number where it is among the words
none_first : (test : Hash64 → Bool) (words : List Hash64) → list_any test words ≡ false → length words ≤ position_or_len test words
none_first test [] none = omega arith
none_first test (word ∷ words) none = by_test (test word)
    (λ passes. let some = rw passes at none in absurd (cc))
    (λ fails. rw fails (omega (arith, none_first test words (rw fails at none))))

has_a_number : (words : List Hash64) (word : Hash64) → is_some (number_of word words) ≡ is_among words word
has_a_number words word =
    let test : Hash64 → Bool = λ w. w.0 == word.0 in
    by_test (is_among words word)
    (λ there. ap is_some (there_at_first test words (first_kept test words [] there).1) ∙ sym there)
    (λ missing. ap (λ b. is_some (cond b (Some (position_or_len test words)) None)) (le-ltb _ _ (none_first test words missing)) ∙ sym missing)

pub is_found : (words : List Hash64) (word : Hash64) (found : Option HashNo) → option_map (λ h. h.0) found ≡ number_of word words → is_some found ≡ is_among words word
is_found words word None none = ap is_some none ∙ has_a_number words word
is_found words word (Some h) some = ap is_some some ∙ has_a_number words word

-- ---- the hashes of files are among their words
abbrev pub AreAmong : List Hash64 → List Hash64 → Type 0
AreAmong words hashes = All (λ hash. is_among words hash ≡ true) hashes

new_words_are_among : (words hashes : List Hash64) → AreAmong (words ++ new_words words hashes) hashes
new_words_are_among words [] = All-nil (λ hash. is_among (words ++ []) hash ≡ true)
new_words_are_among words (hash ∷ hashes) = by_test (is_among words hash)
    (λ there. rw there (All-cons (λ w. is_among (words ++ new_words words hashes) w ≡ true) hash hashes
    (among_kept words (new_words words hashes) hash there) (new_words_are_among words hashes)))
    (λ missing. let after = words ++ hash ∷ [] in
    rw (missing, ← append_assoc words (hash ∷ []) (new_words after hashes))
    (All-cons (λ w. is_among (after ++ new_words after hashes) w ≡ true) hash hashes
    (among_kept after (new_words after hashes) hash (list_any-append (λ w. w.0 == hash.0) words (hash ∷ []) ∙ or_right _ _ (or_left _ _ (eq-eqb hash.0 hash.0 refl))))
    (new_words_are_among after hashes)))

-- what the table has, once the new words are in it
pub among_with_last : (file : FileRow) (files : List FileRow) (before added after hashes : List Hash64) →
    before ≡ words_of files → added ≡ new_words (words_of files) file.hashes → after ≡ before ++ added → hashes ≡ file.hashes → AreAmong after hashes
among_with_last file files before added after hashes old new put its = rw (its, put, new, old) (new_words_are_among (words_of files) file.hashes)

among_with : (words : List Hash64) (files : List FileRow) (word : Hash64) → is_among words word ≡ true → is_among (words_with words files) word ≡ true
among_with words [] word there = there
among_with words (file ∷ files) word there = among_with (words ++ new_words words file.hashes) files word (among_kept words (new_words words file.hashes) word there)

all_among_with : (words : List Hash64) (files : List FileRow) → All (λ file. AreAmong (words_with words files) file.hashes) files
all_among_with words [] = All-nil (λ file. AreAmong words file.hashes)
all_among_with words (file ∷ files) =
    let after = words ++ new_words words file.hashes in
    All-cons (λ f. AreAmong (words_with after files) f.hashes) file files
    (All-weaker (λ hash. is_among after hash ≡ true) (λ hash. is_among (words_with after files) hash ≡ true) (among_with after files) file.hashes (new_words_are_among words file.hashes))
    (all_among_with after files)

pub all_among : (files : List FileRow) → All (λ file. AreAmong (words_of files) file.hashes) files
unfolding words_of
all_among files = all_among_with [] files

-- ---- who has the hash of a number
pub has_number_kept : (words more : List Hash64) (h : ℕ) (hashes : List Hash64) → AreAmong words hashes → has_number (words ++ more) h hashes ≡ has_number words h hashes
has_number_kept words more h [] among = refl
has_number_kept words more h (hash ∷ hashes) among =
    let first = All-head (λ w. is_among words w ≡ true) hash hashes among in
    let rest = All-tail (λ w. is_among words w ≡ true) hash hashes among in
    ap (λ number. option_map_or (λ n. n == h) number false || has_number (words ++ more) h hashes) (number_kept words more hash first)
    ∙ ap (λ others. option_map_or (λ n. n == h) (number_of hash words) false || others) (has_number_kept words more h hashes rest)

-- The distinct hashes of files: what a file brings, that none stands twice, and how many they are.
use Rattle.std.proofs.Common.{◌≡◌, ◌≢◌, ◌≤◌, ◌+◌, ◌*◌, ◌==◌, false, List, [], ◌∷◌, ◌++◌, length, length-append, append_assoc, refl, ap, arith}
use Rattle.std.specs.List.{All}
use Rattle.std.proofs.lemmas.Bool.{eq-eqb, both_ways}
use Rattle.std.proofs.lemmas.List.{append-nil}
use Rattle.std.proofs.lemmas.List.Elements.{All-head, All-tail}
use Rattle.std.proofs.lemmas.List.Folds.{list_any_at}
use Rattle.std.proofs.lemmas.List.Quantifiers.{all_pairs_push}
use Rattle.media_types.specs.declared.hash.Hash64.{Hash64}
use Rattle.media_types.specs.declared.limits.TheConstants.{MAX_HASHES}
use Rattle.file_records.specs.declared.file_row.FileRow.{FileRow}
use Rattle.file_records.specs.Words.{is_among, new_words, words_with, words_of, AreDistinctWords}
use Rattle.spare_tables.specs.KeyLaws.{by_test}

-- ---- one more file
words_with_more : (words : List Hash64) (files : List FileRow) (file : FileRow) →
    words_with words (files ++ file ∷ []) ≡ words_with words files ++ new_words (words_with words files) file.hashes
words_with_more words [] file = refl
words_with_more words (first ∷ files) file = words_with_more (words ++ new_words words first.hashes) files file

pub words_of_more : (file : FileRow) (files : List FileRow) → words_of (files ++ file ∷ []) ≡ words_of files ++ new_words (words_of files) file.hashes
unfolding words_of
words_of_more file files = words_with_more [] files file

-- ---- no word stands twice
-- a hash that isn't among the words is none of them
differs : (words : List Hash64) (hash : Hash64) → is_among words hash ≡ false → All (λ word. word ≢ hash) words
differs words hash missing k d lt same =
    both_ways _ missing (list_any_at (λ word. word.0 == hash.0) words k d lt (eq-eqb _ _ (ap (λ (w : Hash64). w.0) same)))

pub distinct_with_new : (words hashes : List Hash64) → AreDistinctWords words → AreDistinctWords (words ++ new_words words hashes)
distinct_with_new words [] distinct = rw (append-nil words) distinct
distinct_with_new words (hash ∷ hashes) distinct = by_test (is_among words hash)
    (λ there. rw there (distinct_with_new words hashes distinct))
    (λ missing. rw (missing, ← append_assoc words (hash ∷ []) (new_words (words ++ hash ∷ []) hashes))
    (distinct_with_new (words ++ hash ∷ []) hashes (all_pairs_push (λ a b. a ≢ b) words hash distinct (differs words hash missing))))

distinct_with : (words : List Hash64) (files : List FileRow) → AreDistinctWords words → AreDistinctWords (words_with words files)
distinct_with words [] distinct = distinct
distinct_with words (file ∷ files) distinct = distinct_with (words ++ new_words words file.hashes) files (distinct_with_new words file.hashes distinct)

pub words_are_distinct : (files : List FileRow) → AreDistinctWords (words_of files)
unfolding words_of
words_are_distinct files = distinct_with [] files (λ i j d before within same. omega arith)

-- ---- how many they are
pub few_new_words : (words hashes : List Hash64) → length (new_words words hashes) ≤ length hashes
few_new_words words [] = omega arith
few_new_words words (hash ∷ hashes) = by_test (is_among words hash)
    (λ there. rw there (omega (arith, few_new_words words hashes)))
    (λ missing. rw missing (omega (arith, few_new_words (words ++ hash ∷ []) hashes)))

few_with : (words : List Hash64) (files : List FileRow) → All (λ file. length file.hashes ≤ MAX_HASHES) files →
    length (words_with words files) ≤ length words + MAX_HASHES * length files
few_with words [] few = omega arith
few_with words (file ∷ files) few =
    let rest = few_with (words ++ new_words words file.hashes) files (All-tail (λ f. length f.hashes ≤ MAX_HASHES) file files few) in
    let first = All-head (λ f. length f.hashes ≤ MAX_HASHES) file files few in
    omega (arith, rest, first, few_new_words words file.hashes, length-append words (new_words words file.hashes))

pub few_words : (files : List FileRow) → All (λ file. length file.hashes ≤ MAX_HASHES) files → length (words_of files) ≤ MAX_HASHES * length files
unfolding words_of
few_words files few = omega (arith, few_with [] files few)

-- The table of hashes, once new words are in it, and the new words, found one after the other.
use Rattle.std.proofs.Common.{◌≡◌, ◌<◌, ◌⊎◌, ◌+◌, ◌==◌, ℕ, true, false, List, [], ◌∷◌, ◌++◌, length, drop, get_or, inl, inr, append_assoc, if◌then◌else◌, ap, sym, ◌∙◌}
use Rattle.std.proofs.lemmas.Bool.{or_left, or_right, or_from}
use Rattle.std.proofs.lemmas.List.{drop_more}
use Rattle.std.proofs.lemmas.List.Folds.{list_any-append}
use Rattle.media_types.specs.declared.hash.Hash64.{Hash64}
use Rattle.file_records.specs.declared.file_row.FileRow.{FileRow}
use Rattle.file_records.specs.Words.{is_among, new_words, words_of}
use Rattle.file_records.specs.WordLaws.{words_of_more}

-- what the table has, once the new words are in it
pub words_with_last : (file : FileRow) (files : List FileRow) (before added after : List Hash64) →
    before ≡ words_of files → added ≡ new_words (words_of files) file.hashes → after ≡ before ++ added → after ≡ words_of (files ++ file ∷ [])
words_with_last file files before added after old new put =
    put ∙ ap (λ ws. ws ++ added) old ∙ ap (λ ws. words_of files ++ ws) new ∙ sym (words_of_more file files)

-- ---- the new words, found one after the other
abbrev pub FoundSoFar : List Hash64 → List Hash64 → List Hash64 → ℕ → Type 0
FoundSoFar words hashes new i = new_words words hashes ≡ new ++ new_words (words ++ new) (drop i hashes)

-- a hash that is a word, or that was found before, is no new word
pub found_before : (words hashes new : List Hash64) (i : ℕ) (d : Hash64) → i < length hashes →
    is_among words (get_or hashes i d) ≡ true ⊎ is_among new (get_or hashes i d) ≡ true →
    FoundSoFar words hashes new i → FoundSoFar words hashes new (i + 1)
found_before words hashes new i d within there so_far =
    let hash = get_or hashes i d in
    let rest = drop (i + 1) hashes in
    let among : is_among (words ++ new) hash ≡ true = list_any-append (λ w. w.0 == hash.0) words new ∙ elim there [ inl old ↦ or_left _ _ old | inr found ↦ or_right _ _ found ] in
    so_far ∙ ap (λ ws. new ++ ws) (ap (new_words (words ++ new)) (drop_more hashes i d within)
    ∙ ap (λ b. if b then new_words (words ++ new) rest else hash ∷ new_words (words ++ new ++ hash ∷ []) rest) among)

pub found_now : (words hashes new : List Hash64) (i : ℕ) (d : Hash64) → i < length hashes →
    is_among words (get_or hashes i d) ≡ false → is_among new (get_or hashes i d) ≡ false →
    FoundSoFar words hashes new i → FoundSoFar words hashes (new ++ get_or hashes i d ∷ []) (i + 1)
found_now words hashes new i d within old found so_far =
    let hash = get_or hashes i d in
    let rest = drop (i + 1) hashes in
    let missing : is_among (words ++ new) hash ≡ false = list_any-append (λ w. w.0 == hash.0) words new ∙ or_from _ _ old found in
    so_far ∙ ap (λ ws. new ++ ws) (ap (new_words (words ++ new)) (drop_more hashes i d within)
    ∙ ap (λ b. if b then new_words (words ++ new) rest else hash ∷ new_words (words ++ new ++ hash ∷ []) rest) missing
    ∙ ap (λ ws. hash ∷ new_words ws rest) (append_assoc words new (hash ∷ [])))
    ∙ sym (append_assoc new (hash ∷ []) (new_words (words ++ (new ++ hash ∷ [])) rest))

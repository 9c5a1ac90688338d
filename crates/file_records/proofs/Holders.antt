-- Which files have which hashes, once a file goes last, in the table of holders and among the files.
use Rattle.std.proofs.Common.{◌≡◌, ◌⊎◌, ◌↔◌, ◌≤◌, ◌<◌, ◌==◌, ◌||◌, ℕ, Bool, true, false, Some, List, [], ◌∷◌, ◌++◌, length, length-append, get_or, slice_get, Contains, refl, ap, sym, ◌∙◌, inl, inr, arith}
use Rattle.std.specs.Option.{option_map_or}
use Rattle.std.proofs.lemmas.Bool.{false≢true, or_left, or_right, or_cases, cases_order, eq-eqb, eqb-true}
use Rattle.std.proofs.lemmas.List.{get_or_append_left, get_or_push}
use Rattle.std.proofs.lemmas.Option.{slice_get-get_or, slice_get_past}
use Rattle.media_types.specs.declared.hash.Hash64.{Hash64}
use Rattle.file_records.specs.declared.file_row.FileRow.{FileRow}
use Rattle.file_records.specs.Indexing.{AreHeld}
use Rattle.file_records.specs.Words.{new_words, words_of, has_number, has_hash}
use Rattle.file_records.specs.WordLaws.{words_of_more}
use Rattle.file_records.specs.NumberLaws.{all_among, has_number_kept}

-- ---- the hashes of the files before, of the last, and of none
before_stays : (file : FileRow) (files : List FileRow) (h k : ℕ) → k < length files → has_hash h (files ++ file ∷ []) k ≡ has_hash h files k
before_stays file [] h k before = absurd (omega arith)
before_stays file (first ∷ rest) h k before =
    let files = first ∷ rest in
    let row = get_or files k first in
    let there : slice_get files k ≡ Some row = slice_get-get_or files k first before in
    let stays : slice_get (files ++ file ∷ []) k ≡ Some row =
    slice_get-get_or (files ++ file ∷ []) k first (omega (arith, length-append files (file ∷ []))) ∙ ap Some (get_or_append_left files (file ∷ []) first k before) in
    ap (λ r. option_map_or (λ row. has_number (words_of (files ++ file ∷ [])) h row.hashes) r false) stays
    ∙ ap (λ words. has_number words h row.hashes) (words_of_more file files)
    ∙ has_number_kept (words_of files) (new_words (words_of files) file.hashes) h row.hashes (all_among files k first before)
    ∙ sym (ap (λ r. option_map_or (λ row. has_number (words_of files) h row.hashes) r false) there)

at_last : (file : FileRow) (files : List FileRow) (h : ℕ) → has_hash h (files ++ file ∷ []) (length files) ≡ has_number (words_of (files ++ file ∷ [])) h file.hashes
at_last file files h =
    let all = files ++ file ∷ [] in
    ap (λ r. option_map_or (λ row. has_number (words_of all) h row.hashes) r false)
    (slice_get-get_or all (length files) file (omega (arith, length-append files (file ∷ []))) ∙ ap Some (get_or_push files file file (length files) refl))

none_past : (files : List FileRow) (h k : ℕ) → length files ≤ k → has_hash h files k ≡ false
none_past files h k past = ap (λ r. option_map_or (λ row. has_number (words_of files) h row.hashes) r false) (slice_get_past files k past)

-- ---- the holders, with those that the last file makes
held_with : (file : FileRow) (files : List FileRow) (before after : List (ℕ × ℕ)) →
    ((h k : ℕ) → Contains before (h, k) ↔ (has_hash h files k ≡ true)) →
    ((h k : ℕ) → Contains after (h, k) ↔ (Contains before (h, k) ⊎ ((k ≡ length files) × (has_number (words_of (files ++ file ∷ [])) h file.hashes ≡ true)))) →
    (h k : ℕ) → Contains after (h, k) ↔ (has_hash h (files ++ file ∷ []) k ≡ true)
held_with file files before after held added h k =
    let none = λ (past : length files ≤ k) (old : Contains before (h, k)). false≢true (sym (none_past files h k past) ∙ (held h k).0 old) in
    elim (cases_order k (length files)) [
      | inl last ↦
          let there : has_hash h (files ++ file ∷ []) k ≡ has_number (words_of (files ++ file ∷ [])) h file.hashes = ap (has_hash h (files ++ file ∷ [])) last ∙ at_last file files h in (
            λ member. elim ((added h k).0 member) [ inl old ↦ absurd (none (omega arith) old) | inr new ↦ there ∙ new.1 ],
            λ has. (added h k).1 (inr (last, sym there ∙ has)),
          )
      | inr (inl less) ↦ (
        λ member. elim ((added h k).0 member) [ inl old ↦ before_stays file files h k less ∙ (held h k).0 old | inr new ↦ absurd (omega (arith, new.0)) ],
        λ has. (added h k).1 (inl ((held h k).1 (sym (before_stays file files h k less) ∙ has))),
      )
      | inr (inr greater) ↦ (
        λ member. elim ((added h k).0 member) [ inl old ↦ absurd (none (omega arith) old) | inr new ↦ absurd (omega (arith, new.0)) ],
        λ has. absurd (false≢true (sym (none_past (files ++ file ∷ []) h k (omega (arith, length-append files (file ∷ [])))) ∙ has)),
      )
    ]

pub held_with_last : (file : FileRow) (files : List FileRow) (keys words hashes : List Hash64) (number : ℕ) (before after : List (ℕ × ℕ)) →
    AreHeld keys before files → words ≡ words_of (files ++ file ∷ []) → hashes ≡ file.hashes → number ≡ length files →
    ((h k : ℕ) → Contains after (h, k) ↔ (Contains before (h, k) ⊎ ((k ≡ number) × (has_number words h hashes ≡ true)))) →
    AreHeld words after (files ++ file ∷ [])
held_with_last file files keys words hashes number before after held in_order its last added = record {
  in_order = in_order;
  holders = held_with file files before after held.holders (rw (in_order, its, last) at added);
}

-- ---- one more hash of the file
same_pair : (h k n file : ℕ) → (◌≡◌ {A = ℕ × ℕ} (h, k) (n, file)) ↔ ((h ≡ n) × (k ≡ file))
same_pair h k n file = (λ same. (ap (λ (pair : ℕ × ℕ). pair.0) same, ap (λ (pair : ℕ × ℕ). pair.1) same), λ both j. (both.0 j, both.1 j))

pub held_more : {New Old Start : Type 0} (h k n file : ℕ) (before more : Bool) →
    (New ↔ (Old ⊎ ◌≡◌ {A = ℕ × ℕ} (h, k) (n, file))) →
    (Old ↔ (Start ⊎ ((k ≡ file) × (before ≡ true)))) → more ≡ (before || (n == h)) →
    New ↔ (Start ⊎ ((k ≡ file) × (more ≡ true)))
held_more h k n file before more new old is = (
  λ member. elim (new.0 member) [
    | inl was ↦ elim (old.0 was) [
      | inl start ↦ inl start
      | inr (same, has) ↦ inr (same, is ∙ or_left before (n == h) has)
    ]
    | inr now ↦ let both = (same_pair h k n file).0 now in inr (both.1, is ∙ or_right before (n == h) (eq-eqb n h (sym both.0)))
  ],
  λ either. elim either [
    | inl start ↦ new.1 (inl (old.1 (inl start)))
    | inr (same, has) ↦ elim (or_cases before (n == h) (sym is ∙ has)) [
      | inl was ↦ new.1 (inl (old.1 (inr (same, was))))
      | inr now ↦ new.1 (inr ((same_pair h k n file).1 (sym (eqb-true n h now), same)))
    ]
  ],
)

-- ---- no files
pub none_held : AreHeld [] [] []
unfolding words_of
none_held = record {
  in_order = refl;
  holders = λ h k. (λ member. absurd (omega (arith, member.1)), λ has. absurd (false≢true has));
}

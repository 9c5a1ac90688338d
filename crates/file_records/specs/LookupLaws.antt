-- The look-up of a file by its SHA-256: it finds none exactly where no file has it.
use Rattle.std.proofs.Common.{◌≡◌, ◌≢◌, ◌↔◌, ◌≤◌, ℕ, Bool, true, false, nat_lt, None, List, [], ◌∷◌, ◌++◌, length, refl, ap, arith}
use Rattle.std.specs.List.{position, position_or_len}
use Rattle.std.specs.Str.{bytes_eq}
use Rattle.std.proofs.lemmas.Bool.{ltb-true, ltb-false, both_ways}
use Rattle.std.proofs.lemmas.List.Quantifiers.{all_pairs_push}
use Rattle.std.proofs.lemmas.List.Sums.{fails_before_first, passes_at_first}
use Rattle.std.proofs.lemmas.Slice.Eq.{bytes_eq-Decides}
use Rattle.media_types.specs.declared.hash.Sha.{Sha}
use Rattle.file_records.specs.declared.file_row.FileRow.{FileRow}
use Rattle.file_records.specs.Lookup.{file_with, IsUnknown, AreDistinct}

-- the test of a file by its SHA-256
abbrev pub has_sha : Sha → FileRow → Bool
has_sha sha file = bytes_eq file.sha.0 sha.0

-- ---- `==` decides equality, whichever value stands first
pub same_sha : (a b : Sha) → bytes_eq a.0 b.0 ≡ true → a ≡ b
same_sha a b e = ap (λ (bytes : List ℕ). record { 0 = bytes }) ((bytes_eq-Decides a.0 b.0).0 e)

pub other_sha : (a b : Sha) → bytes_eq a.0 b.0 ≡ false → a ≢ b
other_sha a b e same = both_ways _ e ((bytes_eq-Decides a.0 b.0).1 (ap (λ (s : Sha). s.0) same))

-- ---- a file is found exactly where one has the SHA-256
-- a position is none only where the first that passes is behind the end
at_end : (t : FileRow → Bool) (files : List FileRow) (found : Bool) →
    nat_lt (position_or_len t files) (length files) ≡ found → position t files ≡ None → length files ≤ position_or_len t files
at_end t files true is none = let some = rw is at none in cc
at_end t files false is none = ltb-false _ _ is

-- and there it is none
none_at_end : (t : FileRow → Bool) (files : List FileRow) (found : Bool) →
    nat_lt (position_or_len t files) (length files) ≡ found → (found ≡ true → ⊥) → position t files ≡ None
none_at_end t files true is never = absurd (never refl)
none_at_end t files false is never = rw is

pub unknown_is_not_found : (sha : Sha) (files : List FileRow) → IsUnknown sha files → file_with sha files ≡ None
unknown_is_not_found sha [] unknown = refl
unknown_is_not_found sha (first ∷ files) unknown =
    let all = first ∷ files in
    none_at_end (has_sha sha) all _ refl (λ found.
    let lt = ltb-true _ _ found in
    unknown (position_or_len (has_sha sha) all) first lt (same_sha _ _ (passes_at_first (has_sha sha) all first lt)))

pub not_found_is_unknown : (sha : Sha) (files : List FileRow) → file_with sha files ≡ None → IsUnknown sha files
not_found_is_unknown sha files none k d lt =
    let end = at_end (has_sha sha) files _ refl none in
    other_sha _ _ (fails_before_first (has_sha sha) files k d (omega arith))

pub not_found : (sha : Sha) (files : List FileRow) → (file_with sha files ≡ None) ↔ IsUnknown sha files
not_found sha files = (not_found_is_unknown sha files, unknown_is_not_found sha files)

pub distinct_with : (file : FileRow) (files : List FileRow) → AreDistinct files → IsUnknown file.sha files → AreDistinct (files ++ file ∷ [])
distinct_with file files distinct unknown = all_pairs_push (λ a b. a.sha ≢ b.sha) files file distinct unknown

-- The next file that has a hash, as the holders tell it.
use Rattle.std.proofs.Common.{◌≡◌, ◌∙◌, ℕ, ◌<◌, ◌≤◌, ◌&&◌, leb, true, false, Option, Some, None, List, length, slice_get, refl, sym, arith}
use Rattle.std.specs.Option.{option_map, option_map_or}
use Rattle.std.proofs.lemmas.Bool.{false≢true, and_parts, and_from, false_from_ne_true, leb-true, le-leb}
use Rattle.std.proofs.lemmas.Option.{slice_get_within}
use Rattle.media_types.specs.Numbered.{is_past}
use Rattle.media_types.specs.declared.hash.Hash64.{Hash64}
use Rattle.media_types.specs.declared.limits.TheConstants.{MAX_FILES}
use Rattle.media_types.specs.declared.numbers.FileNo.{FileNo}
use Rattle.spare_tables.specs.Pairs.{IsLeastSecondFrom}
use Rattle.file_records.specs.declared.file_row.FileRow.{FileRow}
use Rattle.file_records.specs.Indexing.{AreHeld}
use Rattle.file_records.specs.Words.{words_of, has_number, has_hash, next_with}
use Rattle.file_records.specs.AscendingLaws.{file_of}
use Rattle.file_records.proofs.Listed.{first_is, first_is_none}

-- ---- the next file
has_within : (h : ℕ) (rows : List FileRow) (k : ℕ) (row : Option FileRow) → slice_get rows k ≡ row → option_map_or (λ r. has_number (words_of rows) h r.hashes) row false ≡ true → k < length rows
has_within h rows k None is has = absurd (false≢true has)
has_within h rows k (Some row) is has = slice_get_within rows k row is

pub next_is : (words : List Hash64) (pairs : List (ℕ × ℕ)) (rows : List FileRow) (h : ℕ) (after : Option FileNo) (from : ℕ) (second : Option ℕ) →
    AreHeld words pairs rows → length rows ≤ MAX_FILES → ((g : ℕ) → g < MAX_FILES → is_past after g ≡ leb from g) → IsLeastSecondFrom pairs h from second → option_map file_of second ≡ next_with h after rows
unfolding next_with
next_is words pairs rows h after from None held few begins least =
    sym (first_is_none (λ f. is_past after f.0 && has_hash h rows f.0) (length rows) (λ g within. false_from_ne_true _ (λ both.
    let parts = and_parts _ _ both in
    let le = leb-true from g (sym (begins g (omega arith)) ∙ parts.0) in
    omega (arith, le, least g ((held.holders h g).1 parts.1)))))
next_is words pairs rows h after from (Some k) held few begins least =
    let has = (held.holders h k).0 least.0 in
    let within = has_within h rows k _ refl has in
    sym (first_is (λ f. is_past after f.0 && has_hash h rows f.0) (length rows) k within
    (λ g less. false_from_ne_true _ (λ both.
    let parts = and_parts _ _ both in
    let le = leb-true from g (sym (begins g (omega arith)) ∙ parts.0) in
    omega (arith, le, least.2 g ((held.holders h g).1 parts.1) le)))
    (and_from _ _ (begins k (omega arith) ∙ le-leb from k least.1) has))

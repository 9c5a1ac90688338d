-- The first of the files that passes a test, and a row, as it was read.
use Rattle.std.proofs.Common.{◌≡◌, ◌∙◌, ℕ, ◌<◌, Bool, true, false, Some, None, List, length, get_or, slice_get, find, refl, sym, ap, arith}
use Rattle.std.specs.List.{position_or_len}
use Rattle.std.specs.Option.{option_map_or}
use Rattle.file_records.specs.Searching.{passes}
use Rattle.std.proofs.lemmas.List.Folds.{find_at}
use Rattle.std.proofs.lemmas.List.Sums.{position_or_len_is}
use Rattle.std.proofs.lemmas.Option.{slice_get-get_or, slice_get_past, slice_get_read}
use Rattle.media_types.specs.Numbered.{files}
use Rattle.media_types.specs.declared.numbers.FileNo.{FileNo}
use Rattle.file_records.specs.declared.file_row.FileRow.{FileRow}
use Rattle.file_records.specs.AscendingLaws.{file_at, file_of, length-files}

-- ---- the first that passes
pub first_is : (p : FileNo → Bool) (n m : ℕ) → m < n → ((g : ℕ) → g < m → p (file_of g) ≡ false) → p (file_of m) ≡ true → find p (files n) ≡ Some (file_of m)
first_is p n m within before passes =
    let at : position_or_len p (files n) ≡ m = position_or_len_is p (files n) m (file_of 0) (omega (arith, length-files n))
    (λ k lt. ap p (file_at n k (file_of 0) (omega arith)) ∙ before k lt) (λ lt. ap p (file_at n m (file_of 0) within) ∙ passes) in
    find_at p (files n) ∙ ap (slice_get (files n)) at ∙ slice_get-get_or (files n) m (file_of 0) (omega (arith, length-files n)) ∙ ap Some (file_at n m (file_of 0) within)

pub first_is_none : (p : FileNo → Bool) (n : ℕ) → ((g : ℕ) → g < n → p (file_of g) ≡ false) → find p (files n) ≡ None
first_is_none p n fails =
    let at : position_or_len p (files n) ≡ n = position_or_len_is p (files n) n (file_of 0) (omega (arith, length-files n))
    (λ k lt. ap p (file_at n k (file_of 0) lt) ∙ fails k lt) (λ lt. absurd (omega (arith, length-files n))) in
    find_at p (files n) ∙ ap (slice_get (files n)) at ∙ slice_get_past (files n) n (omega (arith, length-files n))

-- ---- a row, as it was read
pub row_read : (seen rows : List FileRow) (n k : ℕ) (row : FileRow) → seen ≡ rows → n ≡ length seen → k < n → row ≡ get_or seen k row → slice_get rows k ≡ Some row
row_read seen rows n k row same all within at = ap (λ rs. slice_get rs k) (sym same) ∙ slice_get_read seen n k row all within at

-- the test of a file, where its row is read
pub passes_as_read : (test : FileRow → Bool) (read rows : List FileRow) (k : ℕ) (row : FileRow) (b : Bool) →
    read ≡ rows → k < length read → row ≡ get_or read k row → b ≡ test row → passes test rows k ≡ b
passes_as_read test read rows k row b same within at is =
    ap (λ r. option_map_or test r false) (row_read read rows (length read) k row same refl within at) ∙ sym is

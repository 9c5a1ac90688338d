-- What a binary search finds among ascending files.
use Rattle.std.proofs.Common.{◌≡◌, ◌<◌, ◌≤◌, ◌+◌, ◌==◌, ℕ, false, List, length, get_or, Result, Ok, Err, inl, inr, sym, arith}
use Rattle.std.specs.Cmp.{ranked, nat_cmp_total}
use Rattle.std.specs.List.{AllPairs}
use Rattle.std.specs.List.Sorted.{IsBinarySearchResult, IsNonDecreasingBy, IsSearchInRange}
use Rattle.std.specs.Ordering.{is_lt, nat_cmp, ordering_index}
use Rattle.std.specs.Result.{is_ok}
use Rattle.std.specs.declared.cmp.Ordering.TheVariants.{Less, Equal, Greater}
use Rattle.std.proofs.lemmas.Bool.{cases_lt, eq-eqb, ne_eqb}
use Rattle.std.proofs.lemmas.Bool.Decides.{nat_tests}
use Rattle.std.proofs.lemmas.List.Folds.{list_any_at, list_any_none}
use Rattle.std.proofs.lemmas.List.Sorted.{searchable_from_sorted}
use Rattle.media_types.specs.declared.numbers.FileNo.{FileNo}
use Rattle.file_records.specs.Searching.{is_named}

not_below : (m n : ℕ) → n ≤ m → is_lt (nat_cmp m n) ≡ false
not_below m n le = grind (arith, nat_tests)

rise : (file : FileNo) (files : List FileNo) → AllPairs (λ a b. a.0 < b.0) files → IsNonDecreasingBy (λ f. ordering_index (nat_cmp f.0 file.0)) files
rise file files ascend = searchable_from_sorted nat_cmp_total (λ (f : FileNo). f.0) files file.0
    (λ k d low next. let less = ascend k (k + 1) d (omega arith) next in not_below (get_or files (k + 1) d).0 (get_or files k d).0 (omega arith))

-- the search tells whether the file is named
pub named_if_found : (file : FileNo) (files : List FileNo) (r : Result ℕ ℕ) → AllPairs (λ a b. a.0 < b.0) files → IsSearchInRange r (length files)
    → IsBinarySearchResult (λ (f : FileNo). nat_cmp f.0 file.0) files r → is_named files file.0 ≡ is_ok r
named_if_found file files (Ok at) ascend within tie =
    list_any_at (λ (f : FileNo). f.0 == file.0) files at file within (eq-eqb (get_or files at file).0 file.0 (ranked _ _ Equal (sym (tie file))))
named_if_found file files (Err at) ascend within parted =
    let parts = parted (rise file files ascend) in
    list_any_none (λ (f : FileNo). f.0 == file.0) files (λ k d inside.
    ne_eqb (get_or files k d).0 file.0 (λ same.
    elim (cases_lt k at) [
      | inl before ↦ let less = ranked (get_or files k d).0 file.0 Less (sym (parts.0 k d (omega arith) before)) in omega arith
      | inr after ↦ let greater = ranked (get_or files k d).0 file.0 Greater (sym (parts.1 k d after inside)) in omega arith
    ]))

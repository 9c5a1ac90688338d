-- A file that is greater than all of a queue, and one that is taken out of it.
use Rattle.std.proofs.Common.{◌≡◌, zero, suc, ◌<◌, Bool, false, not, ◌==◌, List, [], ◌∷◌, ◌++◌, if◌then◌else◌, refl, sym, ap, inl, inr, ◌∙◌, arith}
use Rattle.std.specs.List.{All, filter}
use Rattle.std.proofs.lemmas.Bool.{cases_order, lt-ltb, le-ltb, ne_eqb, eq-eqb}
use Rattle.std.proofs.lemmas.List.{append-nil}
use Rattle.media_types.specs.ListLaws.{AllPairs-tail}
use Rattle.media_types.specs.declared.numbers.FileNo.{FileNo}
use Rattle.tree_upkeep.specs.Queue.{Ascend, above, below, noted}
use Rattle.tree_upkeep.specs.PlaceLaws.{all_above}

-- where each file is less, none is above
all_below : (file : FileNo) (xs : List FileNo) → All (λ f. f.0 < file.0) xs → (below file xs ≡ xs) × (above file xs ≡ [])
all_below file [] less = (refl, refl)
all_below file (x ∷ xs) less =
    let first : x.0 < file.0 = less 0 x (omega arith) in
    let later = all_below file xs (λ k d within. less (suc k) d (omega arith)) in
    (rw (lt-ltb x.0 file.0 first) (ap (λ rest. x ∷ rest) later.0), rw (le-ltb file.0 x.0 (omega arith)) later.1)

pub at_end : (file : FileNo) (queued : Bool) (xs : List FileNo) → All (λ f. f.0 < file.0) xs → noted file queued xs ≡ xs ++ (if queued then file ∷ [] else [])
at_end file queued xs less =
    let parts = all_below file xs less in
    rw (parts.0, parts.1) (ap (λ rest. xs ++ rest) (append-nil (if queued then file ∷ [] else [])))

-- the test of being another file
abbrev is_other : FileNo → FileNo → Bool
is_other file other = not (file.0 == other.0)

-- where each file is greater, each is another
all_others : (file : FileNo) (xs : List FileNo) → All (λ f. file.0 < f.0) xs → filter (is_other file) xs ≡ xs
all_others file [] greater = refl
all_others file (x ∷ xs) greater =
    let first : file.0 < x.0 = greater 0 x (omega arith) in
    rw (ne_eqb file.0 x.0 (omega arith)) (ap (λ rest. x ∷ rest) (all_others file xs (λ k d within. greater (suc k) d (omega arith))))

later_greater : (x file : FileNo) (xs : List FileNo) → file.0 ≡ x.0 → Ascend (x ∷ xs) → All (λ f. file.0 < f.0) xs
later_greater x file xs same ascend = λ k d within.
    let greater = ascend 0 (suc k) d (omega arith) (omega arith) in omega (arith, greater, same)

all_greater : (x file : FileNo) (xs : List FileNo) → file.0 < x.0 → Ascend (x ∷ xs) → All (λ f. file.0 < f.0) (x ∷ xs)
all_greater x file xs less ascend zero d within = less
all_greater x file xs less ascend (suc k) d within =
    let greater = ascend 0 (suc k) d (omega arith) within in omega (arith, greater, less)

first_out : (file x : FileNo) (xs : List FileNo) → Ascend (x ∷ xs) → noted file false xs ≡ filter (is_other file) xs → noted file false (x ∷ xs) ≡ filter (is_other file) (x ∷ xs)
first_out file x xs ascend rest = elim (cases_order x.0 file.0) [
  | inl same ↦
      let later = later_greater x file xs (sym same) ascend in
      let parts = all_above file xs later in
      rw (same, le-ltb file.0 file.0 (omega arith), eq-eqb file.0 file.0 refl, parts.0, parts.1, all_others file xs later) refl
  | inr (inl less) ↦
      rw (lt-ltb x.0 file.0 less, le-ltb file.0 x.0 (omega arith), ne_eqb file.0 x.0 (omega arith)) (ap (λ (list : List FileNo). x ∷ list) rest)
  | inr (inr greater) ↦
      let all = all_greater x file xs greater ascend in
      let parts = all_above file (x ∷ xs) all in
      ap (λ (list : List FileNo). list ++ above file (x ∷ xs)) parts.0 ∙ parts.1 ∙ sym (all_others file (x ∷ xs) all)
]

pub taken_out : (file : FileNo) (xs : List FileNo) → Ascend xs → noted file false xs ≡ filter (is_other file) xs
taken_out file [] ascend = refl
taken_out file (x ∷ xs) ascend = first_out file x xs ascend (taken_out file xs (AllPairs-tail (λ (a b : FileNo). a.0 < b.0) x xs ascend))

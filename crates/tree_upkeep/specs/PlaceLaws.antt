-- Where a file stands in an ascending queue, and what an edit at that place makes of the queue.
use Rattle.std.proofs.Common.{◌≡◌, ℕ, suc, ◌<◌, ◌≤◌, Bool, true, false, List, [], ◌∷◌, ◌++◌, length, get_or, nat_lt, refl, sym, ap, ◌∙◌, arith}
use Rattle.std.specs.BTreeSet.{insert_key}
use Rattle.std.specs.List.{All}
use Rattle.std.specs.declared.cmp.Ordering.TheVariants.{Less, Equal, Greater}
use Rattle.std.proofs.lemmas.Bool.{ltb-true, lt-ltb, le-ltb}
use Rattle.std.proofs.lemmas.List.Elements.{All-append, All-cons, All-head, All-tail, All-weaker, All-from_get_or, filter_passes}
use Rattle.std.proofs.lemmas.List.Kept.{AllPairs-cons, AllPairs-filter}
use Rattle.media_types.specs.ListLaws.{AllPairs-tail}
use Rattle.media_types.specs.declared.numbers.FileNo.{FileNo}
use Rattle.spare_tables.specs.KeyLaws.{by_ordering}
use Rattle.spare_tables.specs.Keys.{without}
use Rattle.spare_tables.specs.Order.{file_cmp, file_exact}
use Rattle.spare_tables.specs.PairLaws.{number_says}
use Rattle.tree_upkeep.specs.Queue.{Ascend, below, above, noted}

-- ---- the place
-- where each file is greater, none is below
pub all_above : (file : FileNo) (xs : List FileNo) → ((j : ℕ) (d : FileNo) → j < length xs → file.0 < (get_or xs j d).0) → (below file xs ≡ []) × (above file xs ≡ xs)
all_above file [] greater = (refl, refl)
all_above file (x ∷ xs) greater =
    let first = greater 0 x (omega arith) in
    let later = all_above file xs (λ j d within. greater (suc j) d (omega arith)) in
    (rw (le-ltb x.0 file.0 (omega arith)) later.0, rw (lt-ltb file.0 x.0 first) (ap (λ rest. x ∷ rest) later.1))

-- ---- edits
-- a smaller file comes first
smaller_first : (file : FileNo) (queued : Bool) (x : FileNo) (xs : List FileNo) → x.0 < file.0 → noted file queued (x ∷ xs) ≡ x ∷ noted file queued xs
smaller_first file queued x xs less = rw (lt-ltb x.0 file.0 less, le-ltb file.0 x.0 (omega arith)) refl

-- the file itself is neither below nor above
same_first : (file x : FileNo) (xs : List FileNo) → file.0 ≡ x.0 → Ascend (x ∷ xs) → (below file (x ∷ xs) ≡ []) × (above file (x ∷ xs) ≡ xs)
same_first file x xs same ascend =
    let later = all_above file xs (λ j d within. let less = ascend 0 (suc j) d (omega arith) (omega arith) in omega (arith, less, same)) in
    (rw (le-ltb x.0 file.0 (omega arith)) later.0, rw (le-ltb file.0 x.0 (omega arith)) later.1)

later_greater : (file x : FileNo) (xs : List FileNo) → file.0 < x.0 → Ascend (x ∷ xs) → (below file xs ≡ []) × (above file xs ≡ xs)
later_greater file x xs less ascend = all_above file xs (λ j d within. let before = ascend 0 (suc j) d (omega arith) (omega arith) in omega (arith, before, less))

all_greater : (file x : FileNo) (xs : List FileNo) → file.0 < x.0 → Ascend (x ∷ xs) → (below file (x ∷ xs) ≡ []) × (above file (x ∷ xs) ≡ x ∷ xs)
all_greater file x xs less ascend =
    let later = later_greater file x xs less ascend in
    (rw (le-ltb x.0 file.0 (omega arith)) later.0, rw (lt-ltb file.0 x.0 less) (ap (λ (rest : List FileNo). x ∷ rest) later.1))

pub put_in : (file : FileNo) (xs : List FileNo) → Ascend xs → insert_key file_cmp xs file ≡ noted file true xs
put_in file [] ascend = refl
put_in file (x ∷ xs) ascend = by_ordering (file_cmp file x)
    (λ less. let parts = all_greater file x xs (number_says file.0 x.0 Less less) ascend in rw (less, parts.0, parts.1) refl)
    (λ equal. let parts = same_first file x xs (number_says file.0 x.0 Equal equal) ascend in rw (equal, parts.0, parts.1) (ap (λ (first : FileNo). first ∷ xs) (sym (file_exact file x equal))))
    (λ greater. rw (greater, smaller_first file true x xs (number_says file.0 x.0 Greater greater)) (ap (λ (rest : List FileNo). x ∷ rest) (put_in file xs (AllPairs-tail (λ (a b : FileNo). a.0 < b.0) x xs ascend))))

pub taken_out : (file : FileNo) (xs : List FileNo) → Ascend xs → without file_cmp xs file ≡ noted file false xs
taken_out file [] ascend = refl
taken_out file (x ∷ xs) ascend = by_ordering (file_cmp file x)
    (λ less.
    let greater = number_says file.0 x.0 Less less in
    let parts = all_greater file x xs greater ascend in
    let later = later_greater file x xs greater ascend in
    let behind : noted file false xs ≡ xs = rw (later.0, later.1) refl in
    rw (less, parts.0, parts.1) (ap (λ (rest : List FileNo). x ∷ rest) (taken_out file xs (AllPairs-tail (λ (a b : FileNo). a.0 < b.0) x xs ascend) ∙ behind)))
    (λ equal. let parts = same_first file x xs (number_says file.0 x.0 Equal equal) ascend in rw (equal, parts.0, parts.1) refl)
    (λ greater. rw (greater, smaller_first file false x xs (number_says file.0 x.0 Greater greater)) (ap (λ (rest : List FileNo). x ∷ rest) (taken_out file xs (AllPairs-tail (λ (a b : FileNo). a.0 < b.0) x xs ascend))))

-- ---- the order
joined : (middle : ℕ) (xs ys : List FileNo) → All (λ x. x.0 < middle) xs → All (λ y. middle ≤ y.0) ys → Ascend xs → Ascend ys → Ascend (xs ++ ys)
joined middle [] ys low high first second = second
joined middle (x ∷ xs) ys low high first second =
    let here = All-head (λ (y : FileNo). y.0 < middle) x xs low in
    let near : All (λ (y : FileNo). x.0 < y.0) xs = All-from_get_or (λ (y : FileNo). x.0 < y.0) xs x (λ i within. first 0 (suc i) x (omega arith) (omega arith)) in
    let far = All-weaker (λ (y : FileNo). middle ≤ y.0) (λ (y : FileNo). x.0 < y.0) (λ y le. omega arith) ys high in
    AllPairs-cons (λ (a b : FileNo). a.0 < b.0) x (xs ++ ys) (All-append (λ (y : FileNo). x.0 < y.0) xs ys near far) (joined middle xs ys (All-tail (λ (y : FileNo). y.0 < middle) x xs low) high (AllPairs-tail (λ (a b : FileNo). a.0 < b.0) x xs first) second)

pub ascend-noted : (file : FileNo) (queued : Bool) (xs : List FileNo) → Ascend xs → Ascend (noted file queued xs)
ascend-noted file queued xs ascend =
    let low = All-weaker (λ (x : FileNo). nat_lt x.0 file.0 ≡ true) (λ (x : FileNo). x.0 < file.0) (λ x passes. ltb-true x.0 file.0 passes) _ (filter_passes (λ (x : FileNo). nat_lt x.0 file.0) xs) in
    let greater = All-weaker (λ (x : FileNo). nat_lt file.0 x.0 ≡ true) (λ (x : FileNo). file.0 < x.0) (λ x passes. ltb-true file.0 x.0 passes) _ (filter_passes (λ (x : FileNo). nat_lt file.0 x.0) xs) in
    let high = All-weaker (λ (x : FileNo). file.0 < x.0) (λ (x : FileNo). file.0 ≤ x.0) (λ x less. omega arith) (above file xs) greater in
    let first = AllPairs-filter (λ (a b : FileNo). a.0 < b.0) (λ (x : FileNo). nat_lt x.0 file.0) xs ascend in
    let second = AllPairs-filter (λ (a b : FileNo). a.0 < b.0) (λ (x : FileNo). nat_lt file.0 x.0) xs ascend in
    elim queued as (λ choice. Ascend (noted file choice xs)) [
      | true ↦ joined file.0 (below file xs) (file ∷ above file xs) low (All-cons (λ (x : FileNo). file.0 ≤ x.0) file (above file xs) (omega arith) high) first (AllPairs-cons (λ (a b : FileNo). a.0 < b.0) file (above file xs) greater second)
      | false ↦ joined file.0 (below file xs) (above file xs) low high first second
    ]

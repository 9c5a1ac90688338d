-- Near pairs and deleted files: which files near pairs have, and what a new file and a search make of them.
use Rattle.std.proofs.Common.{◌≡◌, ◌<◌, ◌+◌, ◌&&◌, ◌++◌, ℕ, not, Bool, true, false, if◌then◌else◌, cond, nat_lt, Option, Some, None, List, [], ◌∷◌, length, map, slice_get, append-nil, refl, ap, sym, ◌∙◌, arith}
use Rattle.std.specs.List.{All, filter, range_with_len}
use Rattle.std.specs.Option.{option_map, option_map_or}
use Rattle.std.proofs.lemmas.Bool.{ltb-true, ltb-false, lt-ltb, and_right}
use Rattle.std.proofs.lemmas.List.Elements.{filter_agree}
use Rattle.std.proofs.lemmas.List.FromFn.{filter_of_map_range_with_len_more}
use Rattle.std.proofs.lemmas.List.{length_push}
use Rattle.media_types.specs.declared.hash.Hash64.{Hash64}
use Rattle.media_types.specs.declared.numbers.FileNo.{FileNo}
use Rattle.file_records.specs.Distances.{least_distance}
use Rattle.file_records.specs.Near.{distance_at, hashes_at, if_reached, near_at, near_pairs}
use Rattle.file_records.specs.Living.{deleted}
use Rattle.file_records.specs.Searching.{is_named, passes, reaches, searched}
use Rattle.file_records.specs.declared.file_row.FileRow.{FileRow}
use Rattle.file_records.specs.AscendingLaws.{filter_agree_on}
use Rattle.file_records.specs.DistanceLaws.{symmetric}
use Rattle.file_records.specs.QueueLaws.{last_place, place_before}
use Rattle.file_records.specs.SearchLaws.{after, each, same_length}
use Rattle.spare_tables.specs.KeyLaws.{by_test}
use Rattle.spare_tables.specs.BelowLaws.{all_below, numbers_below, same_pairs}

pub below : (rows : List FileRow) → All (λ row. (row.0.0 < row.0.1) × (row.0.1 < length rows)) (near_pairs rows)
below rows = all_below (length rows) (near_at rows)

-- ---- the distance of two near files, by their rows
-- both rows are there, and were searched within d or farther
abbrev both_reach : ℕ → Option FileRow → Option FileRow → Bool
both_reach d f g = option_map_or (reaches d) f false && option_map_or (reaches d) g false

abbrev near_if : Option FileRow → Option FileRow → Option ℕ → Option ℕ
near_if f g None = None
near_if f g (Some d) = if both_reach d f g then Some d else None

abbrev hashes_of : Option FileRow → List Hash64
hashes_of row = option_map_or (λ r. r.hashes) row []

abbrev near_of : Option FileRow → Option FileRow → Option ℕ
near_of f g = near_if f g (least_distance (hashes_of f) (hashes_of g))

if_rows : (rows : List FileRow) (f g : ℕ) (found : Option ℕ) → if_reached rows f g found ≡ near_if (slice_get rows f) (slice_get rows g) found
if_rows rows f g None = refl
if_rows rows f g (Some d) = refl

pub near_by_rows : (rows : List FileRow) (f g : ℕ) → near_at rows f g ≡ near_of (slice_get rows f) (slice_get rows g)
unfolding near_at
near_by_rows rows f g = if_rows rows f g (distance_at rows f g)

-- ---- a new file that was never searched
never_near : (f : Option FileRow) (file : FileRow) (found : Option ℕ) → file.searched ≡ None → near_if f (Some file) found ≡ None
never_near f file None never = refl
never_near f file (Some d) never =
    ap (λ b. if b then Some d else None) (and_right _ _ (ap (λ s. option_map_or (λ e. reaches d (record file { searched = Some e })) s false) never))

near_more : (rows : List FileRow) (file : FileRow) (j k : ℕ) → j < k → k < length rows → near_at (rows ++ file ∷ []) j k ≡ near_at rows j k
near_more rows file j k lower within =
    near_by_rows (rows ++ file ∷ []) j k
    ∙ (λ i. near_of (place_before rows file j (omega arith) i) (place_before rows file k within i))
    ∙ sym (near_by_rows rows j k)

near_last : (rows : List FileRow) (file : FileRow) (j k : ℕ) → k ≡ length rows → file.searched ≡ None → near_at (rows ++ file ∷ []) j k ≡ None
near_last rows file j k last never =
    let more = rows ++ file ∷ [] in
    let row : slice_get more k ≡ Some file = ap (slice_get more) last ∙ last_place rows file in
    near_by_rows more j k
    ∙ ap (near_of (slice_get more j)) row
    ∙ never_near (slice_get more j) file (least_distance (hashes_of (slice_get more j)) file.hashes) never

value_more : (rows : List FileRow) (file : FileRow) (j k : ℕ) → file.searched ≡ None → j < k →
    (if nat_lt k (length (rows ++ file ∷ [])) then near_at (rows ++ file ∷ []) j k else None) ≡ (if nat_lt k (length rows) then near_at rows j k else None)
value_more rows file j k never lower =
    let long = length_push rows file in
    let more = rows ++ file ∷ [] in
    by_test (nat_lt k (length rows))
    (λ within.
    let lt = ltb-true k (length rows) within in
    ap (λ b. if b then near_at more j k else None) (lt-ltb k (length more) (omega arith)) ∙ near_more rows file j k lower lt ∙ ap (λ b. if b then near_at rows j k else None) (sym within))
    (λ outside.
    let le = ltb-false k (length rows) outside in
    by_test (nat_lt k (length more))
    (λ last. let lt = ltb-true k (length more) last in
    ap (λ b. if b then near_at more j k else None) last ∙ near_last rows file j k (omega arith) never ∙ ap (λ b. if b then near_at rows j k else None) (sym outside))
    (λ past. ap (λ b. if b then near_at more j k else None) past ∙ ap (λ b. if b then near_at rows j k else None) (sym outside)))

pub one_more : (file : FileRow) (rows : List FileRow) → file.searched ≡ None → near_pairs (rows ++ file ∷ []) ≡ near_pairs rows
one_more file rows never =
    same_pairs (length (rows ++ file ∷ [])) (length rows) (near_at (rows ++ file ∷ [])) (near_at rows)
    (λ j k lower. value_more rows file j k never lower)

-- ---- deleted files
numbers : (ks : List ℕ) → map (λ k. k) ks ≡ ks
numbers [] = refl
numbers (k ∷ ks) = ap (λ rest. k ∷ rest) (numbers ks)

pub live_more : (file : FileRow) (rows : List FileRow) → file.live ≡ true → deleted (rows ++ file ∷ []) ≡ deleted rows
live_more file rows live =
    let n = length rows in
    let more = rows ++ file ∷ [] in
    let test : ℕ → Bool = passes (λ row. not row.live) more in
    ap (λ m. filter test (range_with_len 0 m)) (length_push rows file)
    ∙ ap (filter test) (sym (numbers (range_with_len 0 (n + 1))))
    ∙ filter_of_map_range_with_len_more test (λ k. k) 0 n n (omega arith)
    ∙ ap (λ ks. filter test ks ++ cond (test n) (n ∷ []) []) (numbers (range_with_len 0 n))
    ∙ ap (λ b. filter test (range_with_len 0 n) ++ cond b (n ∷ []) []) (ap (λ row. option_map_or (λ r. not r.live) row false) (last_place rows file) ∙ ap not live)
    ∙ append-nil (filter test (range_with_len 0 n))
    ∙ filter_agree_on test (passes (λ row. not row.live) rows) (range_with_len 0 n) (λ k d within.
    ap (λ row. option_map_or (λ r. not r.live) row false) (place_before rows file _ (numbers_below n k d within)))

still_live : (d : ℕ) (named : Bool) (row : Option FileRow) → option_map_or (λ r. not r.live) (option_map (after d named) row) false ≡ option_map_or (λ r. not r.live) row false
still_live d named None = refl
still_live d true (Some row) = refl
still_live d false (Some row) = refl

pub still_deleted : (d : ℕ) (named : List FileNo) (rows : List FileRow) → deleted (searched d named rows) ≡ deleted rows
still_deleted d named rows =
    let test : ℕ → Bool = passes (λ row. not row.live) (searched d named rows) in
    ap (λ n. filter test (range_with_len 0 n)) (same_length d named rows)
    ∙ filter_agree test (passes (λ row. not row.live) rows) (λ k.
    ap (λ row. option_map_or (λ r. not r.live) row false) (each d named rows k) ∙ still_live d (is_named named k) (slice_get rows k)) (range_with_len 0 (length rows))

-- ---- near files, in either order
and_swapped : (a b : Bool) → (a && b) ≡ (b && a)
and_swapped true true = refl
and_swapped true false = refl
and_swapped false true = refl
and_swapped false false = refl

swapped_if : (rows : List FileRow) (f g : ℕ) (found : Option ℕ) → if_reached rows f g found ≡ if_reached rows g f found
swapped_if rows f g None = refl
swapped_if rows f g (Some d) = ap (λ b. if b then Some d else None) (and_swapped (passes (reaches d) rows f) (passes (reaches d) rows g))

pub near_symmetric : (rows : List FileRow) (f g : ℕ) → near_at rows f g ≡ near_at rows g f
unfolding near_at
near_symmetric rows f g = ap (if_reached rows f g) (symmetric (hashes_at rows f) (hashes_at rows g)) ∙ swapped_if rows f g (distance_at rows g f)

-- The queue of the files that are to be searched: what it has, and how imports and searches change it.
use Rattle.std.proofs.Common.{◌≡◌, ◌<◌, ◌≤◌, ◌+◌, ◌&&◌, ◌++◌, ℕ, zero, suc, max, not, Bool, true, false, if◌then◌else◌, cond, nat_lt, Option, Some, None, List, [], ◌∷◌, length, slice_get, refl, ap, sym, ◌∙◌, arith}
use Rattle.std.specs.List.{All, filter}
use Rattle.std.specs.Option.{option_map, option_map_or}
use Rattle.std.proofs.lemmas.Bool.{ltb-true, ltb-false, lt-ltb, le-ltb, and_parts, and_right}
use Rattle.std.proofs.lemmas.List.Elements.{All-filter, filter_agree}
use Rattle.std.proofs.lemmas.List.Filters.{length-filter_both}
use Rattle.std.proofs.lemmas.List.FromFn.{filter_of_map_range_with_len_more}
use Rattle.std.proofs.lemmas.List.Kept.{AllPairs-filter}
use Rattle.std.proofs.lemmas.List.{length_push}
use Rattle.media_types.specs.Numbered.{files}
use Rattle.media_types.specs.declared.numbers.FileNo.{FileNo}
use Rattle.file_records.specs.declared.file_row.FileRow.{FileRow}
use Rattle.file_records.specs.Searching.{is_named, is_queued, is_short_of, passes, queue_of, rising, searched}
use Rattle.file_records.specs.AscendingLaws.{Ascend, file_of, files_ascend, files_known, filter_agree_on, filter_filter}
use Rattle.file_records.specs.SearchLaws.{after, each, same_length}
use Rattle.spare_tables.specs.KeyLaws.{by_test}

-- the test of a file that waits
abbrev pub waits : ℕ → List FileRow → FileNo → Bool
waits d rows f = passes (is_queued d) rows f.0

pub queue_ascends : (d : ℕ) (rows : List FileRow) → Ascend (queue_of d rows)
unfolding queue_of
queue_ascends d rows = AllPairs-filter (λ a b. a.0 < b.0) (waits d rows) (files (length rows)) (files_ascend (length rows))

pub queue_known : (d : ℕ) (rows : List FileRow) → All (λ f. f.0 < length rows) (queue_of d rows)
unfolding queue_of
queue_known d rows =
    let P : FileNo → Type 0 = λ f. f.0 < length rows in
    All-filter (waits d rows) P (files (length rows)) (files_known (length rows))

-- ---- one more file
pub place_before : (rows : List FileRow) (file : FileRow) (k : ℕ) → k < length rows → slice_get (rows ++ file ∷ []) k ≡ slice_get rows k
place_before [] file k below = absurd (omega (arith, below))
place_before (row ∷ rows) file zero below = refl
place_before (row ∷ rows) file (suc k) below = place_before rows file k (omega (arith, below))

pub last_place : (rows : List FileRow) (file : FileRow) → slice_get (rows ++ file ∷ []) (length rows) ≡ Some file
last_place [] file = refl
last_place (row ∷ rows) file = last_place rows file

pub queue_one_more : (d : ℕ) (file : FileRow) (rows : List FileRow) →
    queue_of d (rows ++ file ∷ []) ≡ queue_of d rows ++ (if is_queued d file then file_of (length rows) ∷ [] else [])
unfolding queue_of
queue_one_more d file rows =
    let n = length rows in
    let more = rows ++ file ∷ [] in
    let known = files_known n in
    ap (λ m. filter (waits d more) (files m)) (length_push rows file)
    ∙ filter_of_map_range_with_len_more (waits d more) file_of 0 n n (omega arith)
    ∙ ap (λ row. filter (waits d more) (files n) ++ cond (option_map_or (is_queued d) row false) (file_of n ∷ []) []) (last_place rows file)
    ∙ ap (λ fs. fs ++ cond (is_queued d file) (file_of n ∷ []) [])
    (filter_agree_on (waits d more) (waits d rows) (files n) (λ k e within.
    ap (λ row. option_map_or (is_queued d) row false) (place_before rows file _ (known k e within))))

-- ---- a search within less leaves the queue as it is
nearer_stays : (w d : ℕ) (searched : Option ℕ) → w < d → nat_lt (option_map_or (max w) searched w) d ≡ option_map_or (λ s. nat_lt s d) searched true
nearer_stays w d None less = lt-ltb w d less
nearer_stays w d (Some s) less = by_test (nat_lt s d)
    (λ short. let lt = ltb-true s d short in lt-ltb (max w s) d (omega (arith, less, lt)) ∙ sym short)
    (λ far. let le = ltb-false s d far in le-ltb (max w s) d (omega (arith, le)) ∙ sym far)

stays_queued : (w d : ℕ) (named : Bool) (row : FileRow) → w < d → is_queued d (after w named row) ≡ is_queued d row
stays_queued w d false row less = refl
stays_queued w d true row less = ap (λ b. row.live && (nat_lt 0 (length row.hashes) && b)) (nearer_stays w d row.searched less)

stays_waiting : (w d : ℕ) (named : Bool) (row : Option FileRow) → w < d →
    option_map_or (is_queued d) (option_map (after w named) row) false ≡ option_map_or (is_queued d) row false
stays_waiting w d named None less = refl
stays_waiting w d named (Some row) less = stays_queued w d named row less

-- the queue after a search, by what becomes of each file
queue_after : (w d : ℕ) (named : List FileNo) (rows : List FileRow) (test : FileNo → Bool) →
    ((k : ℕ) → option_map_or (is_queued d) (option_map (after w (is_named named k)) (slice_get rows k)) false ≡ test (file_of k)) →
    queue_of d (searched w named rows) ≡ filter test (files (length rows))
unfolding queue_of
queue_after w d named rows test becomes =
    ap (λ n. filter (waits d (searched w named rows)) (files n)) (same_length w named rows)
    ∙ filter_agree (waits d (searched w named rows)) test (λ f.
    ap (λ row. option_map_or (is_queued d) row false) (each w named rows f.0) ∙ becomes f.0) (files (length rows))

pub queue_stays : (w d : ℕ) (named : List FileNo) (rows : List FileRow) → w < d → queue_of d (searched w named rows) ≡ queue_of d rows
unfolding queue_of
queue_stays w d named rows less = queue_after w d named rows (waits d rows) (λ k. stays_waiting w d (is_named named k) (slice_get rows k) less)

-- ---- a search within as much takes what it names out of the queue
reached : (w d : ℕ) (searched : Option ℕ) → d ≤ w → nat_lt (option_map_or (max w) searched w) d ≡ false
reached w d None enough = le-ltb w d enough
reached w d (Some s) enough = le-ltb (max w s) d (omega (arith, enough))

and_no_more : (b : Bool) → b ≡ (b && true)
and_no_more true = refl
and_no_more false = refl

leaves_queued : (w d : ℕ) (named : Bool) (row : FileRow) → d ≤ w → is_queued d (after w named row) ≡ (is_queued d row && not named)
leaves_queued w d false row enough = and_no_more (is_queued d row)
leaves_queued w d true row enough =
    and_right row.live _ (and_right (nat_lt 0 (length row.hashes)) _ (reached w d row.searched enough)) ∙ sym (and_right (is_queued d row) false refl)

leaves_waiting : (w d : ℕ) (named : Bool) (row : Option FileRow) → d ≤ w →
    option_map_or (is_queued d) (option_map (after w named) row) false ≡ (option_map_or (is_queued d) row false && not named)
leaves_waiting w d named None enough = refl
leaves_waiting w d named (Some row) enough = leaves_queued w d named row enough

pub queue_leaves : (w d : ℕ) (named : List FileNo) (rows : List FileRow) → d ≤ w →
    queue_of d (searched w named rows) ≡ filter (λ f. not (is_named named f.0)) (queue_of d rows)
unfolding queue_of
queue_leaves w d named rows enough =
    queue_after w d named rows (λ f. waits d rows f && not (is_named named f.0)) (λ k. leaves_waiting w d (is_named named k) (slice_get rows k) enough)
    ∙ sym (filter_filter (λ f. not (is_named named f.0)) (waits d rows) (files (length rows)))

-- ---- how many are left
short_too : (w d : ℕ) (searched : Option ℕ) → d ≤ w → option_map_or (λ s. nat_lt s d) searched true ≡ true → option_map_or (λ s. nat_lt s w) searched true ≡ true
short_too w d None enough short = refl
short_too w d (Some s) enough short = let lt = ltb-true s d short in lt-ltb s w (omega (arith, enough, lt))

-- a file that waits rises by the search
waiting_rises : (w d : ℕ) (row : FileRow) → d ≤ w → is_queued d row ≡ true → is_short_of w row ≡ true
waiting_rises w d row enough waiting =
    let rest = (and_parts row.live (nat_lt 0 (length row.hashes) && is_short_of d row) waiting).1 in
    short_too w d row.searched enough (and_parts (nat_lt 0 (length row.hashes)) (is_short_of d row) rest).1

swapped : (waiting rising named : Bool) → (waiting ≡ true → rising ≡ true) → ((named && rising) && waiting) ≡ (waiting && named)
swapped false rising named rises = and_right (named && rising) false refl
swapped true rising named rises = sym (and_no_more (named && rising)) ∙ ap (λ b. named && b) (rises refl) ∙ sym (and_no_more named)

swapped_at : (w d : ℕ) (named : Bool) (row : Option FileRow) → d ≤ w →
    ((named && option_map_or (is_short_of w) row false) && option_map_or (is_queued d) row false) ≡ (option_map_or (is_queued d) row false && named)
swapped_at w d named None enough = and_right (named && false) false refl
swapped_at w d named (Some row) enough = swapped (is_queued d row) (is_short_of w row) named (waiting_rises w d row enough)

-- those of the rising files that wait are those of the queue that are named
rising_waiting : (w d : ℕ) (named : List FileNo) (rows : List FileRow) → d ≤ w →
    filter (waits d rows) (rising w named rows) ≡ filter (λ f. is_named named f.0) (queue_of d rows)
unfolding queue_of rising
rising_waiting w d named rows enough =
    let all = files (length rows) in
    let rises : FileNo → Bool = λ f. is_named named f.0 && passes (is_short_of w) rows f.0 in
    filter_filter (waits d rows) rises all
    ∙ filter_agree (λ f. rises f && waits d rows f) (λ f. waits d rows f && is_named named f.0) (λ f. swapped_at w d (is_named named f.0) (slice_get rows f.0) enough) all
    ∙ sym (filter_filter (λ f. is_named named f.0) (waits d rows) all)

pub queue_left : (w d : ℕ) (named : List FileNo) (rows : List FileRow) → d ≤ w →
    length (queue_of d (searched w named rows)) + length (filter (λ f. passes (is_queued d) rows f.0) (rising w named rows)) ≡ length (queue_of d rows)
queue_left w d named rows enough =
    let both = length-filter_both (λ f. is_named named f.0) (λ f. not (is_named named f.0)) (λ f. refl) (queue_of d rows) in
    omega (arith, both, ap length (queue_leaves w d named rows enough), ap length (rising_waiting w d named rows enough))

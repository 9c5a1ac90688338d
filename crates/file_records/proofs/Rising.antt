-- The files that a search raises, found one after the other in the named ones, which were sorted.
use Rattle.std.proofs.Common.{◌≡◌, ◌<◌, ◌≤◌, ◌+◌, ◌-◌, ◌==◌, ◌&&◌, ◌||◌, ℕ, Bool, true, false, not, Option, Some, None, List, [], ◌∷◌, ◌++◌, length, get_or, slice_get, take, ⊎_elim, refl, ap, sym, ◌∙◌, arith}
use Rattle.std.specs.List.{All}
use Rattle.std.specs.List.Sorted.{IsNonDecreasingBy, IsPermutation}
use Rattle.std.specs.Option.{option_eq}
use Rattle.std.proofs.lemmas.Bool.{false≢true, not-true, not-false, both_ways, and_parts, cases_lt, eqb-true, eq-eqb}
use Rattle.std.proofs.lemmas.List.{get_or-take, get_or_default, length-take, take_all, take_more}
use Rattle.std.proofs.lemmas.List.Elements.{All-weaker, filter_agree, filter_passes}
use Rattle.std.proofs.lemmas.List.Folds.{list_any_at, list_any-append, Any-from_list_any}
use Rattle.std.proofs.lemmas.List.Quantifiers.{all_pairs_push}
use Rattle.std.proofs.lemmas.List.Sorted.{list_any-IsPermutation}
use Rattle.std.proofs.lemmas.Option.{get_or_from_slice_get, slice_get_within, slice_get-get_or}
use Rattle.media_types.specs.Numbered.{files}
use Rattle.media_types.specs.declared.numbers.FileNo.{FileNo}
use Rattle.media_types.specs.contracts.numbers.FileNoPartialEq.TheImpl.{eq-value}
use Rattle.file_records.specs.declared.file_row.FileRow.{FileRow}
use Rattle.file_records.specs.Searching.{is_named, is_short_of, passes, rising}
use Rattle.file_records.specs.AscendingLaws.{Ascend, file_of, filter_none, same_ascending}
use Rattle.file_records.specs.SearchLaws.{named_in_rising, rising_ascends}

-- the test of a file that was not searched far enough
abbrev short_at : ℕ → List FileRow → ℕ → Bool
short_at d rows k = passes (is_short_of d) rows k

-- it depends on the named files only by which of those that are short are named
rising_same : (d : ℕ) (named also : List FileNo) (rows : List FileRow) →
    ((k : ℕ) → (is_named named k && short_at d rows k) ≡ (is_named also k && short_at d rows k)) → rising d named rows ≡ rising d also rows
unfolding rising
rising_same d named also rows same =
    filter_agree (λ f. is_named named f.0 && short_at d rows f.0) (λ f. is_named also f.0 && short_at d rows f.0) (λ f. same f.0) (files (length rows))

rising_sorted : (d : ℕ) (named sorted : List FileNo) (rows : List FileRow) → IsPermutation named sorted → rising d sorted rows ≡ rising d named rows
rising_sorted d named sorted rows moved =
    rising_same d sorted named rows (λ k. ap (λ b. b && short_at d rows k) (sym (list_any-IsPermutation (λ f. f.0 == k) named sorted moved)))

-- ---- one more file is named
named_too : (named : List FileNo) (file : FileNo) (k : ℕ) → is_named (named ++ file ∷ []) k ≡ (is_named named k || ((file.0 == k) || false))
named_too named file k = list_any-append (λ f. f.0 == k) named (file ∷ [])

not_short_more : (named here short : Bool) → (here ≡ true → short ≡ false) → ((named || (here || false)) && short) ≡ (named && short)
not_short_more true here short far = refl
not_short_more false true short far = far refl
not_short_more false false short far = refl

-- one that was searched far enough does not rise
far_is_left_out : (d : ℕ) (named : List FileNo) (file : FileNo) (rows : List FileRow) → short_at d rows file.0 ≡ false →
    rising d (named ++ file ∷ []) rows ≡ rising d named rows
far_is_left_out d named file rows far = rising_same d (named ++ file ∷ []) named rows (λ k.
    ap (λ b. b && short_at d rows k) (named_too named file k)
    ∙ not_short_more (is_named named k) (file.0 == k) (short_at d rows k) (λ here. sym (ap (short_at d rows) (eqb-true file.0 k here)) ∙ far))

named_before : (named here : Bool) → (here ≡ true → named ≡ true) → (named || (here || false)) ≡ named
named_before true here before = refl
named_before false true before = sym (before refl)
named_before false false before = refl

-- the last one that rises is named
last_is_named : (d : ℕ) (named : List FileNo) (file : FileNo) (rows : List FileRow) (at : ℕ) → slice_get (rising d named rows) at ≡ Some file → is_named named file.0 ≡ true
last_is_named d named file rows at last =
    let found = rising d named rows in
    let there = list_any_at (λ f. f.0 == file.0) found at file (slice_get_within found at file last)
    (ap (λ f. f.0 == file.0) (get_or_from_slice_get found at file file last) ∙ eq-eqb file.0 file.0 refl) in
    (and_parts (is_named named file.0) (short_at d rows file.0) (sym (named_in_rising d named rows file.0) ∙ there)).0

-- one that rose already does not rise again
again_is_left_out : (d : ℕ) (named : List FileNo) (file : FileNo) (rows : List FileRow) (at : ℕ) → slice_get (rising d named rows) at ≡ Some file →
    rising d (named ++ file ∷ []) rows ≡ rising d named rows
again_is_left_out d named file rows at last = rising_same d (named ++ file ∷ []) named rows (λ k.
    ap (λ b. b && short_at d rows k) (named_too named file k
    ∙ named_before (is_named named k) (file.0 == k) (λ here. ap (is_named named) (sym (eqb-true file.0 k here)) ∙ last_is_named d named file rows at last)))

-- ---- a file that rises goes last
up_to : (named : List FileNo) (file : FileNo) (k : ℕ) → All (λ f. f.0 ≤ file.0) named → is_named named k ≡ true → k ≤ file.0
up_to named file k upto there =
    let found = Any-from_list_any (λ f. f.0 == k) named there in
    let le = upto found.0 found.1 found.2 in
    omega (arith, le, ap (λ f. f.0) found.3, eqb-true found.1.0 k found.4)

rising_up_to : (d : ℕ) (named : List FileNo) (file : FileNo) (rows : List FileRow) → All (λ f. f.0 ≤ file.0) named → All (λ f. f.0 ≤ file.0) (rising d named rows)
unfolding rising
rising_up_to d named file rows upto =
    let test : FileNo → Bool = λ f. is_named named f.0 && short_at d rows f.0 in
    All-weaker (λ f. test f ≡ true) (λ f. f.0 ≤ file.0)
    (λ f pass. up_to named file f.0 upto (and_parts (is_named named f.0) (short_at d rows f.0) pass).0)
    (rising d named rows) (filter_passes test (files (length rows)))

-- where the last one isn't the file, all are before it
all_before : (found : List FileNo) (file : FileNo) → Ascend found → All (λ f. f.0 ≤ file.0) found → (slice_get found (length found - 1) ≡ Some file → ⊥) →
    (k : ℕ) (e : FileNo) → k < length found → (get_or found k e).0 < file.0
all_before found file up upto other k e within =
    let end = length found - 1 in
    let inside : end < length found = omega (arith, within) in
    let last = get_or found end e in
    let before : last.0 < file.0 = ⊎_elim
    (λ less. less)
    (λ least. absurd (other (slice_get-get_or found end e inside ∙ ap (λ n. Some (file_of n)) (omega (arith, least, upto end e inside)))))
    (cases_lt last.0 file.0) in
    ⊎_elim
    (λ earlier. let next = up k end e earlier inside in omega (arith, next, before))
    (λ latest. let same : k ≡ end = omega (arith, latest, within) in omega (arith, ap (λ n. (get_or found n e).0) same, before))
    (cases_lt k end)

spread : (named short here : Bool) → (here ≡ true → short ≡ true) → ((named || (here || false)) && short) ≡ ((named && short) || (here || false))
spread true true here rises = refl
spread true false true rises = absurd (false≢true (rises refl))
spread true false false rises = refl
spread false true true rises = refl
spread false true false rises = refl
spread false false true rises = absurd (false≢true (rises refl))
spread false false false rises = refl

next_rises : (d : ℕ) (named : List FileNo) (file : FileNo) (rows : List FileRow) →
    All (λ f. f.0 ≤ file.0) named → short_at d rows file.0 ≡ true → (slice_get (rising d named rows) (length (rising d named rows) - 1) ≡ Some file → ⊥) →
    rising d (named ++ file ∷ []) rows ≡ rising d named rows ++ file ∷ []
next_rises d named file rows upto short other =
    let found = rising d named rows in
    same_ascending (rising d (named ++ file ∷ []) rows) (found ++ file ∷ [])
    (rising_ascends d (named ++ file ∷ []) rows)
    (all_pairs_push (λ a b. a.0 < b.0) found file (rising_ascends d named rows) (all_before found file (rising_ascends d named rows) (rising_up_to d named file rows upto) other))
    (λ k. named_in_rising d (named ++ file ∷ []) rows k
    ∙ ap (λ b. b && short_at d rows k) (named_too named file k)
    ∙ spread (is_named named k) (short_at d rows k) (file.0 == k) (λ here. ap (short_at d rows) (sym (eqb-true file.0 k here)) ∙ short)
    ∙ ap (λ b. b || ((file.0 == k) || false)) (sym (named_in_rising d named rows k))
    ∙ sym (named_too found file k))

-- ---- in the sorted list
-- all before a place are at most the file there
sorted_up_to : (sorted : List FileNo) (i : ℕ) (file : FileNo) → IsNonDecreasingBy (λ f. f.0) sorted → i < length sorted → file ≡ get_or sorted i file → All (λ f. f.0 ≤ file.0) (take i sorted)
sorted_up_to sorted i file ordered within at = λ k e inside.
    let before : k < i = omega (arith, inside, length-take i sorted) in
    let le = ordered k i e (omega (arith, before)) within in
    omega (arith, le, ap (λ f. f.0) (get_or-take i sorted k e before), ap (λ f. f.0) at, ap (λ f. f.0) (get_or_default sorted i e file within))

one_more_taken : (d : ℕ) (sorted : List FileNo) (i : ℕ) (file : FileNo) (rows : List FileRow) → i < length sorted → file ≡ get_or sorted i file →
    rising d (take (i + 1) sorted) rows ≡ rising d (take i sorted ++ file ∷ []) rows
one_more_taken d sorted i file rows within at =
    ap (λ fs. rising d fs rows) (take_more sorted i file within ∙ ap (λ f. take i sorted ++ f ∷ []) (sym at))

-- the next file of the sorted list rises, where it is short and wasn't the last that was found
pub next_is_found : (d : ℕ) (sorted : List FileNo) (i : ℕ) (file : FileNo) (rows : List FileRow) (found : List FileNo) (last : Option FileNo) →
    IsNonDecreasingBy (λ f. f.0) sorted → i < length sorted → file ≡ get_or sorted i file → found ≡ rising d (take i sorted) rows →
    last ≡ slice_get found (length found - 1) → (last ≡ Some file → ⊥) → short_at d rows file.0 ≡ true →
    found ++ file ∷ [] ≡ rising d (take (i + 1) sorted) rows
next_is_found d sorted i file rows found last ordered within at so_far ended other short =
    let named = take i sorted in
    ap (λ fs. fs ++ file ∷ []) so_far
    ∙ sym (next_rises d named file rows (sorted_up_to sorted i file ordered within at) short
    (λ same. other (ended ∙ ap (λ fs. slice_get fs (length fs - 1)) so_far ∙ same)))
    ∙ sym (one_more_taken d sorted i file rows within at)

pub far_is_not_found : (d : ℕ) (sorted : List FileNo) (i : ℕ) (file : FileNo) (rows : List FileRow) (found : List FileNo) →
    i < length sorted → file ≡ get_or sorted i file → found ≡ rising d (take i sorted) rows → short_at d rows file.0 ≡ false →
    found ≡ rising d (take (i + 1) sorted) rows
far_is_not_found d sorted i file rows found within at so_far far =
    so_far ∙ sym (far_is_left_out d (take i sorted) file rows far) ∙ sym (one_more_taken d sorted i file rows within at)

pub again_is_not_found : (d : ℕ) (sorted : List FileNo) (i : ℕ) (file : FileNo) (rows : List FileRow) (found : List FileNo) (last : Option FileNo) →
    i < length sorted → file ≡ get_or sorted i file → found ≡ rising d (take i sorted) rows →
    last ≡ slice_get found (length found - 1) → last ≡ Some file →
    found ≡ rising d (take (i + 1) sorted) rows
again_is_not_found d sorted i file rows found last within at so_far ended same =
    so_far
    ∙ sym (again_is_left_out d (take i sorted) file rows (length found - 1) (ap (λ fs. slice_get fs (length found - 1)) (sym so_far) ∙ sym ended ∙ same))
    ∙ sym (one_more_taken d sorted i file rows within at)

-- what `!=` tells of the last that was found
same_file : (last : Option FileNo) (file : FileNo) → option_eq eq-value.it last (Some file) ≡ true → last ≡ Some file
same_file None file is = absurd (false≢true is)
same_file (Some last) file is = ap (λ n. Some (file_of n)) (eqb-true last.0 file.0 is)

itself : (last : Option FileNo) (file : FileNo) → last ≡ Some file → option_eq eq-value.it last (Some file) ≡ true
itself last file same = ap (λ f. option_eq eq-value.it f (Some file)) same ∙ eq-eqb file.0 file.0 refl

pub is_last : (last : Option FileNo) (file : FileNo) (other : Bool) → other ≡ not (option_eq eq-value.it last (Some file)) → other ≡ false → last ≡ Some file
is_last last file other told is = same_file last file (not-false _ (sym told ∙ is))

pub is_not_last : (last : Option FileNo) (file : FileNo) (other : Bool) → other ≡ not (option_eq eq-value.it last (Some file)) → other ≡ true → last ≡ Some file → ⊥
is_not_last last file other told is same = both_ways _ (not-true _ (sym told ∙ is)) (itself last file same)

-- ---- none yet
pub none_named : (d : ℕ) (rows : List FileRow) → rising d [] rows ≡ []
unfolding rising
none_named d rows = filter_none (λ f. is_named [] f.0 && short_at d rows f.0) (files (length rows)) (λ f. refl)

-- ---- all that rise, once the sorted list is through
pub whole_rising : (d : ℕ) (named copied sorted read : List FileNo) (i : ℕ) (rows : List FileRow) (found : List FileNo) →
    copied ≡ named → IsPermutation copied sorted → read ≡ sorted → length read ≤ i → found ≡ rising d (take i read) rows → found ≡ rising d named rows
whole_rising d named copied sorted read i rows found same moved seen through so_far =
    so_far ∙ ap (λ fs. rising d fs rows) (take_all i read through ∙ seen) ∙ rising_sorted d copied sorted rows moved ∙ ap (λ fs. rising d fs rows) same

-- Which files are live: what a mark changes and what it leaves, and where a file stands among the deleted ones and in the queue.
use Rattle.std.proofs.Common.{◌≡◌, ◌≢◌, ◌↔◌, ◌<◌, ◌≤◌, ◌+◌, ◌==◌, ◌&&◌, ◌++◌, ℕ, zero, suc, not, Bool, true, false, if◌then◌else◌, cond, nat_lt, Option, Some, None, List, [], ◌∷◌, length, get_or, slice_get, map, refl, ap, sym, ◌∙◌, arith}
use Rattle.std.specs.BTreeSet.{insert_key}
use Rattle.std.specs.Cmp.{nat_cmp_is}
use Rattle.std.specs.List.{filter, range_with_len}
use Rattle.std.specs.Option.{option_map, option_map_or}
use Rattle.std.specs.Ordering.{is_eq, match_ordering, nat_cmp}
use Rattle.std.specs.declared.cmp.Ordering.TheVariants.{Less, Equal, Greater}
use Rattle.std.proofs.lemmas.Bool.{lt-ltb, le-ltb, eq-eqb, ne_eqb, eqb-true, eqb-false, and_right}
use Rattle.std.proofs.lemmas.Option.{same_Some, slice_get_past}
use Rattle.spare_tables.specs.Keys.{without}
use Rattle.spare_tables.specs.Pairs.{pairs_below}
use Rattle.media_types.specs.Numbered.{files}
use Rattle.media_types.specs.declared.hash.Hash64.{Hash64}
use Rattle.media_types.specs.declared.numbers.FileNo.{FileNo}
use Rattle.file_records.specs.declared.file_row.FileRow.{FileRow}
use Rattle.file_records.specs.Distances.{least_distance}
use Rattle.file_records.specs.Living.{deleted, with_live_mark, with_mark}
use Rattle.file_records.specs.Lookup.{AreDistinct}
use Rattle.file_records.specs.Near.{distance_at, hashes_at, if_reached, near_at, near_pairs}
use Rattle.file_records.specs.Searching.{is_queued, passes, queue_of, reaches, wants_search}
use Rattle.file_records.specs.Words.{new_words, words_of, words_with}
use Rattle.file_records.specs.AscendingLaws.{file_of, filter_filter}
use Rattle.spare_tables.specs.KeyLaws.{by_test}

-- ---- the rows one by one
unchanged : (row : Option FileRow) → row ≡ option_map (λ r. r) row
unchanged None = refl
unchanged (Some row) = refl

-- the row of a file, whether it is the marked one or another
abbrev marked : Bool → Bool → FileRow → FileRow
marked live here row = if here then with_mark live row else row

same_next : (k n : ℕ) → (k == n) ≡ (suc k == suc n)
same_next k n = by_test (k == n)
    (λ same. same ∙ sym (eq-eqb (suc k) (suc n) (ap suc (eqb-true k n same))))
    (λ other. other ∙ sym (ne_eqb (suc k) (suc n) (λ is. eqb-false k n other (omega (arith, is)))))

pub each : (n : ℕ) (live : Bool) (rows : List FileRow) (k : ℕ) → slice_get (with_live_mark n live rows) k ≡ option_map (marked live (k == n)) (slice_get rows k)
each n live [] k = refl
each zero live (row ∷ rows) zero = refl
each zero live (row ∷ rows) (suc k) =
    unchanged (slice_get rows k) ∙ ap (λ b. option_map (marked live b) (slice_get rows k)) (sym (ne_eqb (suc k) 0 (λ is. omega (arith, is))))
each (suc n) live (row ∷ rows) zero = ap (λ b. Some (marked live b row)) (sym (ne_eqb 0 (suc n) (λ is. omega (arith, is))))
each (suc n) live (row ∷ rows) (suc k) = each n live rows k ∙ ap (λ b. option_map (marked live b) (slice_get rows k)) (same_next k n)

-- what holds of each row, be it marked or not, is told of the row that was there
kept_at : {X : Type 0} (part : FileRow → X) (none : X) → ((live : Bool) (row : FileRow) → part (with_mark live row) ≡ part row) →
    (live here : Bool) (row : Option FileRow) → option_map_or part (option_map (marked live here) row) none ≡ option_map_or part row none
kept_at part none same live here None = refl
kept_at part none same live true (Some row) = same live row
kept_at part none same live false (Some row) = refl

pub kept : {X : Type 0} (part : FileRow → X) (none : X) → ((live : Bool) (row : FileRow) → part (with_mark live row) ≡ part row) →
    (n : ℕ) (live : Bool) (rows : List FileRow) (k : ℕ) → option_map_or part (slice_get (with_live_mark n live rows) k) none ≡ option_map_or part (slice_get rows k) none
kept part none same n live rows k = ap (λ row. option_map_or part row none) (each n live rows k) ∙ kept_at part none same live (k == n) (slice_get rows k)

pub same_length : (n : ℕ) (live : Bool) (rows : List FileRow) → length (with_live_mark n live rows) ≡ length rows
same_length n live [] = refl
same_length zero live (row ∷ rows) = refl
same_length (suc n) live (row ∷ rows) = ap suc (same_length n live rows)

-- ---- what stays
pub part_at : {X : Type 0} (part : FileRow → X) → ((live : Bool) (row : FileRow) → part (with_mark live row) ≡ part row) →
    (n : ℕ) (live : Bool) (rows : List FileRow) (k : ℕ) (e : FileRow) → part (get_or (with_live_mark n live rows) k e) ≡ part (get_or rows k e)
part_at part same n live [] k e = refl
part_at part same zero live (row ∷ rows) zero e = same live row
part_at part same zero live (row ∷ rows) (suc k) e = refl
part_at part same (suc n) live (row ∷ rows) zero e = refl
part_at part same (suc n) live (row ∷ rows) (suc k) e = part_at part same n live rows k e

pub distinct : (n : ℕ) (live : Bool) (rows : List FileRow) → AreDistinct rows → AreDistinct (with_live_mark n live rows)
distinct n live rows apart = λ i j e before within same.
    apart i j e before (omega (arith, within, same_length n live rows))
    (sym (part_at (λ r. r.sha) (λ l r. refl) n live rows i e) ∙ same ∙ part_at (λ r. r.sha) (λ l r. refl) n live rows j e)

words_from : (n : ℕ) (live : Bool) (rows : List FileRow) (words : List Hash64) → words_with words (with_live_mark n live rows) ≡ words_with words rows
words_from n live [] words = refl
words_from zero live (row ∷ rows) words = refl
words_from (suc n) live (row ∷ rows) words = words_from n live rows (words ++ new_words words row.hashes)

pub words : (n : ℕ) (live : Bool) (rows : List FileRow) → words_of (with_live_mark n live rows) ≡ words_of rows
unfolding words_of
words n live rows = words_from n live rows []

-- ---- near pairs stay
hashes_kept : (n : ℕ) (live : Bool) (rows : List FileRow) (f : ℕ) → hashes_at (with_live_mark n live rows) f ≡ hashes_at rows f
hashes_kept n live rows f = kept (λ r. r.hashes) [] (λ l r. refl) n live rows f

reached_kept : (n : ℕ) (live : Bool) (rows : List FileRow) (d f : ℕ) → passes (reaches d) (with_live_mark n live rows) f ≡ passes (reaches d) rows f
reached_kept n live rows d f = kept (reaches d) false (λ l r. refl) n live rows f

if_reached_kept : (n : ℕ) (live : Bool) (rows : List FileRow) (f g : ℕ) (found : Option ℕ) → if_reached (with_live_mark n live rows) f g found ≡ if_reached rows f g found
if_reached_kept n live rows f g None = refl
if_reached_kept n live rows f g (Some d) = λ i. if reached_kept n live rows d f i && reached_kept n live rows d g i then Some d else None

near_kept : (n : ℕ) (live : Bool) (rows : List FileRow) (f g : ℕ) → near_at (with_live_mark n live rows) f g ≡ near_at rows f g
unfolding near_at
near_kept n live rows f g =
    if_reached_kept n live rows f g (distance_at (with_live_mark n live rows) f g)
    ∙ ap (if_reached rows f g) (λ i. least_distance (hashes_kept n live rows f i) (hashes_kept n live rows g i))

pub near : (n : ℕ) (live : Bool) (rows : List FileRow) → near_pairs (with_live_mark n live rows) ≡ near_pairs rows
near n live rows =
    ap (λ m. pairs_below m (near_at (with_live_mark n live rows))) (same_length n live rows)
    ∙ ap (pairs_below (length rows)) (λ i f g. near_kept n live rows f g i)

-- ---- a mark that stands so already, and the way back
as_it_was : (n : ℕ) (rows : List FileRow) (row : FileRow) → slice_get rows n ≡ Some row → with_live_mark n row.live rows ≡ rows
as_it_was n [] row at = refl
as_it_was zero (first ∷ rows) row at = ap (λ b. with_mark b first ∷ rows) (sym (ap (λ r. r.live) (same_Some first row at)))
as_it_was (suc n) (first ∷ rows) row at = ap (λ later. first ∷ later) (as_it_was n rows row at)

mark_at : (n : ℕ) (live : Bool) (rows : List FileRow) → slice_get (with_live_mark n live rows) n ≡ option_map (with_mark live) (slice_get rows n)
mark_at n live [] = refl
mark_at zero live (row ∷ rows) = refl
mark_at (suc n) live (row ∷ rows) = mark_at n live rows

pub changes : (n : ℕ) (live : Bool) (rows : List FileRow) (row : FileRow) → slice_get rows n ≡ Some row → (with_live_mark n live rows ≡ rows) ↔ (row.live ≡ live)
changes n live rows row at = (
  λ same.
      let marked : Some (with_mark live row) ≡ Some row = ap (option_map (with_mark live)) (sym at) ∙ sym (mark_at n live rows) ∙ ap (λ rs. slice_get rs n) same ∙ at in
      ap (λ r. r.live) (sym (same_Some (with_mark live row) row marked)),
  λ so_already. ap (λ b. with_live_mark n b rows) (sym so_already) ∙ as_it_was n rows row at,
)

last_mark : (n : ℕ) (first next : Bool) (rows : List FileRow) → with_live_mark n next (with_live_mark n first rows) ≡ with_live_mark n next rows
last_mark n first next [] = refl
last_mark zero first next (row ∷ rows) = refl
last_mark (suc n) first next (row ∷ rows) = ap (λ later. row ∷ later) (last_mark n first next rows)

pub back : (n : ℕ) (live : Bool) (rows : List FileRow) (row : FileRow) → slice_get rows n ≡ Some row → with_live_mark n row.live (with_live_mark n live rows) ≡ rows
back n live rows row at = last_mark n live row.live rows ∙ as_it_was n rows row at

-- ---- the queue
-- the files from a number on that pass a test by their number
abbrev listed : (ℕ → Bool) → ℕ → ℕ → List FileNo
listed test from count = filter (λ f. test f.0) (map file_of (range_with_len from count))

listed_agree : (t u : ℕ → Bool) (from count : ℕ) → ((k : ℕ) → from ≤ k → t k ≡ u k) → listed t from count ≡ listed u from count
listed_agree t u from zero same = refl
listed_agree t u from (suc count) same =
    ap (λ b. cond b (file_of from ∷ listed t (from + 1) count) (listed t (from + 1) count)) (same from (omega arith))
    ∙ ap (λ fs. cond (u from) (file_of from ∷ fs) fs) (listed_agree t u (from + 1) count (λ k up. same k (omega (arith, up))))

listed_none : (t : ℕ → Bool) (from count : ℕ) → ((k : ℕ) → from ≤ k → t k ≡ false) → listed t from count ≡ []
listed_none t from zero none = refl
listed_none t from (suc count) none =
    ap (λ b. cond b (file_of from ∷ listed t (from + 1) count) (listed t (from + 1) count)) (none from (omega arith))
    ∙ listed_none t (from + 1) count (λ k up. none k (omega (arith, up)))

first_of_both : (b : Bool) (f : FileNo) (fs gs : List FileNo) → cond b (f ∷ (fs ++ gs)) (fs ++ gs) ≡ cond b (f ∷ fs) fs ++ gs
first_of_both true f fs gs = refl
first_of_both false f fs gs = refl

and_true : (a b : Bool) → b ≡ true → a ≡ (a && b)
and_true true b is = sym is
and_true false b is = refl

-- where two tests differ at one number alone, the one list is the other with this number in its place or left out
module _ (n : ℕ) (before after : ℕ → Bool) (present : Bool) (same : (k : ℕ) → k ≢ n → after k ≡ before k) (here : after n ≡ present) where
  abbrev this : List FileNo
  this = if present then file_of n ∷ [] else []

  abbrev lower : ℕ → Bool
  lower k = before k && nat_lt k n

  abbrev higher : ℕ → Bool
  higher k = before k && nat_lt n k

  none_lower : (from count : ℕ) → n ≤ from → listed lower from count ≡ []
  none_lower from count past = listed_none lower from count (λ k up. and_right (before k) (nat_lt k n) (le-ltb k n (omega (arith, up, past))))

  all_higher : (from count : ℕ) → n < from → listed after from count ≡ listed higher from count
  all_higher from count past = listed_agree after higher from count (λ k up.
      same k (λ is. omega (arith, up, past, is)) ∙ and_true (before k) (nat_lt n k) (lt-ltb n k (omega (arith, up, past))))

  at_first : (count : ℕ) → listed after n (suc count) ≡ this ++ listed higher n (suc count)
  at_first count =
      ap (λ b. cond b (file_of n ∷ listed after (n + 1) count) (listed after (n + 1) count)) here
      ∙ first_of_both present (file_of n) [] (listed after (n + 1) count)
      ∙ ap (λ fs. this ++ fs) (all_higher (n + 1) count (omega arith)
      ∙ sym (ap (λ b. cond b (file_of n ∷ listed higher (n + 1) count) (listed higher (n + 1) count)) (and_right (before n) (nat_lt n n) (le-ltb n n (omega arith)))))

  placed : (from count : ℕ) → from ≤ n → (from + count ≤ n → present ≡ false) → listed after from count ≡ listed lower from count ++ (this ++ listed higher from count)
  placed from zero up missing = ap (λ b. (if b then file_of n ∷ [] else []) ++ []) (sym (missing (omega (arith, up))))
  placed from (suc count) up missing = by_test (from == n)
      (λ at. let is = eqb-true from n at in
      ap (λ k. listed after k (suc count)) is
      ∙ at_first count
      ∙ ap (λ fs. fs ++ (this ++ listed higher n (suc count))) (sym (none_lower n (suc count) (omega arith)))
      ∙ ap (λ k. listed lower k (suc count) ++ (this ++ listed higher k (suc count))) (sym is))
      (λ other. let differ = eqb-false from n other in
      let below : from < n = omega (arith, up, differ) in
      let low = listed lower (from + 1) count in
      let high = listed higher (from + 1) count in
      ap (λ b. cond b (file_of from ∷ listed after (from + 1) count) (listed after (from + 1) count))
      (same from differ ∙ and_true (before from) (nat_lt from n) (lt-ltb from n below))
      ∙ ap (λ fs. cond (lower from) (file_of from ∷ fs) fs) (placed (from + 1) count (omega (arith, below)) (λ past. missing (omega (arith, past))))
      ∙ first_of_both (lower from) (file_of from) low (this ++ high)
      ∙ ap (λ fs. cond (lower from) (file_of from ∷ low) low ++ (this ++ fs))
      (sym (ap (λ b. cond b (file_of from ∷ high) high) (and_right (before from) (nat_lt n from) (le-ltb n from (omega (arith, below)))))))

-- who waits, once the mark is set
waits_other : (d n : ℕ) (live : Bool) (rows : List FileRow) (k : ℕ) → k ≢ n → passes (is_queued d) (with_live_mark n live rows) k ≡ passes (is_queued d) rows k
waits_other d n live rows k other =
    ap (λ row. option_map_or (is_queued d) row false) (each n live rows k
    ∙ ap (λ b. option_map (marked live b) (slice_get rows k)) (ne_eqb k n other)
    ∙ sym (unchanged (slice_get rows k)))

waits_marked : (d : ℕ) (live : Bool) (row : Option FileRow) → option_map_or (is_queued d) (option_map (with_mark live) row) false ≡ (live && option_map_or (wants_search d) row false)
waits_marked d live None = sym (and_right live false refl)
waits_marked d live (Some row) = refl

waits_here : (d n : ℕ) (live : Bool) (rows : List FileRow) → passes (is_queued d) (with_live_mark n live rows) n ≡ (live && passes (wants_search d) rows n)
waits_here d n live rows = ap (λ row. option_map_or (is_queued d) row false) (mark_at n live rows) ∙ waits_marked d live (slice_get rows n)

not_there : (d n : ℕ) (live : Bool) (rows : List FileRow) → length rows ≤ n → (live && passes (wants_search d) rows n) ≡ false
not_there d n live rows past = and_right live _ (ap (λ row. option_map_or (wants_search d) row false) (slice_get_past rows n past))

pub queue : (d : ℕ) (file : FileNo) (live : Bool) (rows : List FileRow) →
    queue_of d (with_live_mark file.0 live rows)
    ≡ filter (λ other. nat_lt other.0 file.0) (queue_of d rows)
    ++ ((if live && passes (wants_search d) rows file.0 then file ∷ [] else [])
    ++ filter (λ other. nat_lt file.0 other.0) (queue_of d rows))
unfolding queue_of
queue d file live rows =
    let n = file.0 in
    let before : ℕ → Bool = passes (is_queued d) rows in
    let after : ℕ → Bool = passes (is_queued d) (with_live_mark n live rows) in
    let present : Bool = live && passes (wants_search d) rows n in
    let this : List FileNo = if present then file ∷ [] else [] in
    let all = files (length rows) in
    ap (listed after 0) (same_length n live rows)
    ∙ placed n before after present (waits_other d n live rows) (waits_here d n live rows) 0 (length rows) (omega arith) (λ past. not_there d n live rows (omega (arith, past)))
    ∙ ap (λ fs. fs ++ (this ++ listed (λ k. before k && nat_lt n k) 0 (length rows))) (sym (filter_filter (λ f. nat_lt f.0 n) (λ f. before f.0) all))
    ∙ ap (λ fs. filter (λ f. nat_lt f.0 n) (filter (λ f. before f.0) all) ++ (this ++ fs)) (sym (filter_filter (λ f. nat_lt n f.0) (λ f. before f.0) all))

-- ---- the deleted files
-- the numbers from one on that pass a test
abbrev numbers : (ℕ → Bool) → ℕ → ℕ → List ℕ
numbers test from count = filter test (range_with_len from count)

numbers_agree : (t u : ℕ → Bool) (from count : ℕ) → ((k : ℕ) → from ≤ k → t k ≡ u k) → numbers t from count ≡ numbers u from count
numbers_agree t u from zero same = refl
numbers_agree t u from (suc count) same =
    ap (λ b. cond b (from ∷ numbers t (from + 1) count) (numbers t (from + 1) count)) (same from (omega arith))
    ∙ ap (λ ks. cond (u from) (from ∷ ks) ks) (numbers_agree t u (from + 1) count (λ k up. same k (omega (arith, up))))

-- a number goes before the greater ones, and isn't among them
module _ (n k : ℕ) (ks : List ℕ) where
  put_before : n < k → insert_key nat_cmp (k ∷ ks) n ≡ n ∷ k ∷ ks
  put_before less = ap (λ o. match_ordering o (n ∷ k ∷ ks) (k ∷ ks) (k ∷ insert_key nat_cmp ks n)) (sym (nat_cmp_is n k Less less))

  put_again : n ≡ k → insert_key nat_cmp (k ∷ ks) n ≡ k ∷ ks
  put_again same = ap (λ o. match_ordering o (n ∷ k ∷ ks) (k ∷ ks) (k ∷ insert_key nat_cmp ks n)) (sym (nat_cmp_is n k Equal same))

  put_later : k < n → insert_key nat_cmp (k ∷ ks) n ≡ k ∷ insert_key nat_cmp ks n
  put_later more = ap (λ o. match_ordering o (n ∷ k ∷ ks) (k ∷ ks) (k ∷ insert_key nat_cmp ks n)) (sym (nat_cmp_is n k Greater more))

  taken_here : n ≡ k → without nat_cmp (k ∷ ks) n ≡ ks
  taken_here same = ap (λ o. cond (is_eq o) ks (k ∷ without nat_cmp ks n)) (sym (nat_cmp_is n k Equal same))

  taken_before : n < k → without nat_cmp (k ∷ ks) n ≡ k ∷ without nat_cmp ks n
  taken_before less = ap (λ o. cond (is_eq o) ks (k ∷ without nat_cmp ks n)) (sym (nat_cmp_is n k Less less))

  taken_later : k < n → without nat_cmp (k ∷ ks) n ≡ k ∷ without nat_cmp ks n
  taken_later more = ap (λ o. cond (is_eq o) ks (k ∷ without nat_cmp ks n)) (sym (nat_cmp_is n k Greater more))

put_first : (n : ℕ) (t : ℕ → Bool) (from count : ℕ) → n < from → insert_key nat_cmp (numbers t from count) n ≡ n ∷ numbers t from count
put_first n t from zero less = refl
put_first n t from (suc count) less = by_test (t from)
    (λ there. rw there (put_before n from (numbers t (from + 1) count) less))
    (λ missing. rw missing (put_first n t (from + 1) count (omega (arith, less))))

taken_none : (n : ℕ) (t : ℕ → Bool) (from count : ℕ) → n < from → without nat_cmp (numbers t from count) n ≡ numbers t from count
taken_none n t from zero less = refl
taken_none n t from (suc count) less =
    let rest = taken_none n t (from + 1) count (omega (arith, less)) in
    by_test (t from)
    (λ there. rw there (taken_before n from (numbers t (from + 1) count) less ∙ ap (λ ks. from ∷ ks) rest))
    (λ missing. rw missing rest)

module _ (n : ℕ) (before after : ℕ → Bool) (same : (k : ℕ) → k ≢ n → after k ≡ before k) where
  same_past : (from count : ℕ) → n < from → numbers after from count ≡ numbers before from count
  same_past from count past = numbers_agree after before from count (λ k up. same k (λ is. omega (arith, up, past, is)))

  -- it is put there, whether it was there already or not
  put_here : (count : ℕ) (was : Bool) → before n ≡ was → n ∷ numbers before (n + 1) count ≡ insert_key nat_cmp (cond was (n ∷ numbers before (n + 1) count) (numbers before (n + 1) count)) n
  put_here count true is = sym (put_again n n (numbers before (n + 1) count) refl)
  put_here count false is = sym (put_first n before (n + 1) count (omega arith))

  taken_there : (count : ℕ) (was : Bool) → before n ≡ was → numbers before (n + 1) count ≡ without nat_cmp (cond was (n ∷ numbers before (n + 1) count) (numbers before (n + 1) count)) n
  taken_there count true is = sym (taken_here n n (numbers before (n + 1) count) refl)
  taken_there count false is = sym (taken_none n before (n + 1) count (omega arith))

  put_behind : (from : ℕ) (was : Bool) (ks : List ℕ) → from < n → cond was (from ∷ insert_key nat_cmp ks n) (insert_key nat_cmp ks n) ≡ insert_key nat_cmp (cond was (from ∷ ks) ks) n
  put_behind from true ks below = sym (put_later n from ks below)
  put_behind from false ks below = refl

  taken_behind : (from : ℕ) (was : Bool) (ks : List ℕ) → from < n → cond was (from ∷ without nat_cmp ks n) (without nat_cmp ks n) ≡ without nat_cmp (cond was (from ∷ ks) ks) n
  taken_behind from true ks below = sym (taken_later n from ks below)
  taken_behind from false ks below = refl

  comes : after n ≡ true → (from count : ℕ) → from ≤ n → n < from + count → numbers after from count ≡ insert_key nat_cmp (numbers before from count) n
  comes here from zero up within = absurd (omega (arith, up, within))
  comes here from (suc count) up within = by_test (from == n)
      (λ at. let is = eqb-true from n at in
      ap (λ k. numbers after k (suc count)) is
      ∙ ap (λ b. cond b (n ∷ numbers after (n + 1) count) (numbers after (n + 1) count)) here
      ∙ ap (λ ks. n ∷ ks) (same_past (n + 1) count (omega arith))
      ∙ put_here count (before n) refl
      ∙ ap (λ k. insert_key nat_cmp (numbers before k (suc count)) n) (sym is))
      (λ other. let differ = eqb-false from n other in
      let below : from < n = omega (arith, up, differ) in
      ap (λ b. cond b (from ∷ numbers after (from + 1) count) (numbers after (from + 1) count)) (same from differ)
      ∙ ap (λ ks. cond (before from) (from ∷ ks) ks) (comes here (from + 1) count (omega (arith, below)) (omega (arith, within)))
      ∙ put_behind from (before from) (numbers before (from + 1) count) below)

  leaves : after n ≡ false → (from count : ℕ) → from ≤ n → n < from + count → numbers after from count ≡ without nat_cmp (numbers before from count) n
  leaves here from zero up within = absurd (omega (arith, up, within))
  leaves here from (suc count) up within = by_test (from == n)
      (λ at. let is = eqb-true from n at in
      ap (λ k. numbers after k (suc count)) is
      ∙ ap (λ b. cond b (n ∷ numbers after (n + 1) count) (numbers after (n + 1) count)) here
      ∙ same_past (n + 1) count (omega arith)
      ∙ taken_there count (before n) refl
      ∙ ap (λ k. without nat_cmp (numbers before k (suc count)) n) (sym is))
      (λ other. let differ = eqb-false from n other in
      let below : from < n = omega (arith, up, differ) in
      ap (λ b. cond b (from ∷ numbers after (from + 1) count) (numbers after (from + 1) count)) (same from differ)
      ∙ ap (λ ks. cond (before from) (from ∷ ks) ks) (leaves here (from + 1) count (omega (arith, below)) (omega (arith, within)))
      ∙ taken_behind from (before from) (numbers before (from + 1) count) below)

-- who is deleted, once the mark is set
abbrev is_deleted : List FileRow → ℕ → Bool
is_deleted rows k = passes (λ row. not row.live) rows k

deleted_other : (n : ℕ) (live : Bool) (rows : List FileRow) (k : ℕ) → k ≢ n → is_deleted (with_live_mark n live rows) k ≡ is_deleted rows k
deleted_other n live rows k other =
    ap (λ row. option_map_or (λ r. not r.live) row false) (each n live rows k
    ∙ ap (λ b. option_map (marked live b) (slice_get rows k)) (ne_eqb k n other)
    ∙ sym (unchanged (slice_get rows k)))

deleted_here : (n : ℕ) (live : Bool) (rows : List FileRow) → n < length rows → is_deleted (with_live_mark n live rows) n ≡ not live
deleted_here n live [] within = absurd (omega (arith, within))
deleted_here zero live (row ∷ rows) within = refl
deleted_here (suc n) live (row ∷ rows) within = deleted_here n live rows (omega (arith, within))

pub deleted_after : (n : ℕ) (live : Bool) (rows : List FileRow) → n < length rows →
    deleted (with_live_mark n live rows) ≡ (if live then without nat_cmp (deleted rows) n else insert_key nat_cmp (deleted rows) n)
deleted_after n live rows within = ap (numbers (is_deleted (with_live_mark n live rows)) 0) (same_length n live rows) ∙ by_mark live (deleted_here n live rows within)
  where
    by_mark : (mark : Bool) → is_deleted (with_live_mark n live rows) n ≡ not mark →
        numbers (is_deleted (with_live_mark n live rows)) 0 (length rows) ≡ (if mark then without nat_cmp (deleted rows) n else insert_key nat_cmp (deleted rows) n)
    by_mark true here = leaves n (is_deleted rows) (is_deleted (with_live_mark n live rows)) (deleted_other n live rows) here 0 (length rows) (omega arith) (omega (arith, within))
    by_mark false here = comes n (is_deleted rows) (is_deleted (with_live_mark n live rows)) (deleted_other n live rows) here 0 (length rows) (omega arith) (omega (arith, within))

-- Where no file waits to be searched, near pairs are left out only where their files don't count.
use Rattle.std.proofs.Common.{◌≡◌, ◌<◌, ◌≤◌, ℕ, Bool, true, false, ◌==◌, ◌&&◌, not, if◌then◌else◌, nat_le, nat_lt, inl, inr, Option, Some, None, List, [], ◌∷◌, length, map, get_or, take, refl, ap, sym, ◌∙◌, arith}
use Rattle.std.specs.List.{filter, list_any, range_with_len}
use Rattle.std.specs.Option.{option_map_or}
use Rattle.std.proofs.lemmas.Bool.{ltb-false, lt-ltb, leb-true, le-leb, eqb-true, eq-eqb, and_parts, both_ways, not-true, not-false}
use Rattle.std.proofs.lemmas.List.Folds.{list_any_at}
use Rattle.std.proofs.lemmas.List.FromFn.{get_or-range_with_len, length-range_with_len}
use Rattle.std.proofs.lemmas.Map.Views.{any-filter_same}
use Rattle.std.proofs.lemmas.Option.{slice_get_cases}
use Rattle.media_types.specs.Least.{least}
use Rattle.media_types.specs.declared.hash.Hash64.{Hash64}
use Rattle.media_types.specs.declared.numbers.FileNo.{FileNo}
use Rattle.media_base.specs.declared.command.Caller.TheVariants.{Console}
use Rattle.media_base.specs.declared.reply.Answer.TheVariants as answers
use Rattle.spare_tables.specs.Pairs.{pairs_below}
use Rattle.file_records.specs.declared.file_row.FileRow.{FileRow}
use Rattle.file_records.specs.Distances.{distances, least_distance}
use Rattle.file_records.specs.Near.{distance_at, hashes_at, if_reached, near_at, near_pairs}
use Rattle.file_records.specs.Living.{deleted}
use Rattle.file_records.specs.Searching.{is_queued, is_short_of, passes, queue_of, reaches}
use Rattle.relation_groups.specs.Relations.{Relations}
use Rattle.potential_pairs.specs.Pages.{is_behind, named, page_of}
use Rattle.potential_pairs.specs.Potential.{Row, is_between, is_live, least_between, may_pair, potential_at}
use Rattle.spare_tables.specs.BelowLaws.{same_below}
use Rattle.library_machine.specs.Asking.{answer, query_needs, related}
use Rattle.library_machine.specs.Covering.{PairsCover, PagesCover, CountsCover}
use Rattle.library_machine.specs.Step.{admitted, step, told}
use Rattle.library_machine.proofs.KeptPairs.{filter_below, kept}
use Rattle.library_machine.proofs.LeastWithin.{filter_map_of, is_within, least_within}

-- ---- a live file with a hash was searched, where none waits

and_true : (b : Bool) → (b && true) ≡ b
and_true true = refl
and_true false = refl

-- a number is found among those that pass a test exactly where it passes
found_by : (test : ℕ → Bool) (n f : ℕ) → f < n → list_any (λ g. g == f) (filter test (range_with_len 0 n)) ≡ test f
found_by test n f below =
    let is_f : ℕ → Bool = λ g. g == f in
    let place = get_or-range_with_len 0 n f 0 below in
    let at = eq-eqb (get_or (range_with_len 0 n) f 0) f (omega arith) in
    let there : list_any is_f (range_with_len 0 n) ≡ true = list_any_at is_f (range_with_len 0 n) f 0 (omega (arith, length-range_with_len 0 n)) at in
    any-filter_same is_f test (test f) (λ g e. ap test (eqb-true g f e)) (range_with_len 0 n)
    ∙ ap (λ (b : Bool). test f && b) there ∙ and_true (test f)

file_of : ℕ → FileNo
file_of k = record { 0 = k }

none_mapped : {X Y : Type 0} (f : X → Y) (xs : List X) → map f xs ≡ [] → xs ≡ []
none_mapped f [] e = refl
none_mapped f (x ∷ xs) e = absurd (cc)

-- where none waits, this file doesn't
waits_not : (d : ℕ) (rows : List FileRow) (f : ℕ) → queue_of d rows ≡ [] → f < length rows → passes (is_queued d) rows f ≡ false
unfolding queue_of file_of
waits_not d rows f none below =
    let test : ℕ → Bool = passes (is_queued d) rows in
    let numbers = range_with_len 0 (length rows) in
    let mapped = sym (filter_map_of (λ (g : FileNo). test g.0) file_of numbers) ∙ none in
    sym (found_by test (length rows) f below) ∙ ap (list_any (λ g. g == f)) (none_mapped file_of (filter test numbers) mapped)

lives : (rows : List FileRow) (f : ℕ) → f < length rows → is_live (deleted rows) f ≡ true → passes (λ row. not row.live) rows f ≡ false
lives rows f below live = sym (found_by (passes (λ row. not row.live) rows) (length rows) f below) ∙ not-true _ live

third_is_false : (a b c : Bool) → (a && (b && c)) ≡ false → a ≡ true → b ≡ true → c ≡ false
third_is_false true true c e first second = e
third_is_false true false c e first second = absurd (cc)
third_is_false false b c e first second = absurd (cc)

reached_by : (w d : ℕ) (searched : Option ℕ) → option_map_or (λ s. nat_lt s w) searched true ≡ false → d ≤ w → option_map_or (nat_le d) searched false ≡ true
reached_by w d None e le = absurd (cc)
reached_by w d (Some s) e le = let far = ltb-false _ _ e in le-leb d s (omega arith)

row_reached : (w d : ℕ) (row : FileRow) → is_queued w row ≡ false → not row.live ≡ false → 0 < length row.hashes → d ≤ w → reaches d row ≡ true
row_reached w d row queued dead some le =
    let short : is_short_of w row ≡ false = third_is_false row.live (nat_lt 0 (length row.hashes)) (is_short_of w row) queued (not-false _ dead) (lt-ltb _ _ some) in
    reached_by w d row.searched short le

reached : (rows : List FileRow) (w d f : ℕ) → queue_of w rows ≡ [] → d ≤ w → f < length rows → is_live (deleted rows) f ≡ true →
    0 < length (hashes_at rows f) → passes (reaches d) rows f ≡ true
reached rows w d f none le below live some =
    let queued = waits_not w rows f none below in
    let dead = lives rows f below live in
    elim ((slice_get_cases rows f).1) [
      | inl there ↦
          let row = there.0 in
          let is = there.2 in
          let at : (test : FileRow → Bool) → test row ≡ passes test rows f = λ test. ap (λ (one : Option FileRow). option_map_or test one false) (sym is) in
          let hashes : hashes_at rows f ≡ row.hashes = ap (λ (one : Option FileRow). option_map_or (λ row. row.hashes) one []) is in
          let many : length (hashes_at rows f) ≡ length row.hashes = ap length hashes in
          sym (at (reaches d)) ∙ row_reached w d row (at (is_queued w) ∙ queued) (at (λ row. not row.live) ∙ dead) (omega arith) le
      | inr past ↦ absurd (omega (arith, past.0))
    ]

-- ---- two files with a distance have hashes

none_to : (xs : List Hash64) → distances xs [] ≡ []
none_to [] = refl
none_to (x ∷ xs) = none_to xs

have_hashes : (xs ys : List Hash64) (d : ℕ) → least_distance xs ys ≡ Some d → (0 < length xs) × (0 < length ys)
have_hashes [] ys d e = absurd (cc)
have_hashes (x ∷ xs) [] d e = let none = ap least (none_to xs) in absurd (cc)
have_hashes (x ∷ xs) (y ∷ ys) d e = (omega arith, omega arith)

-- ---- the near pairs that count

module _ (R : Relations) (rows : List FileRow) (w m : ℕ) (none : queue_of w rows ≡ []) (le : m ≤ w) (j k : ℕ) where
  abbrev counts : Row → Bool
  counts row = is_between R (deleted rows) j k row

  -- the distance, where it is of files that count, and within the bound
  abbrev counted : ℕ → ℕ → Option ℕ → Option ℕ
  counted f g found = kept (is_within m) f g (kept counts f g found)

  not_counted : (f g d : ℕ) (between short : Bool) → counts ((f, g), d) ≡ between → nat_le d m ≡ short →
      (passes (reaches d) rows f && passes (reaches d) rows g) ≡ false → f < g → g < length rows →
      (0 < length (hashes_at rows f)) × (0 < length (hashes_at rows g)) →
      None ≡ kept (is_within m) f g (if between then Some d else None)
  not_counted f g d false short is is_short apart lower there hashes = refl
  not_counted f g d true false is is_short apart lower there hashes = ap (λ (b : Bool). if b then Some d else None) (sym is_short)
  not_counted f g d true true is is_short apart lower there hashes =
      let live = and_parts _ _ is in
      let short = leb-true _ _ is_short in
      let first = reached rows w d f none (omega arith) (omega arith) live.0 hashes.0 in
      let second = reached rows w d g none (omega arith) there (and_parts _ _ live.1).0 hashes.1 in
      absurd (both_ways _ apart (ap (λ (b : Bool). b && passes (reaches d) rows g) first ∙ second))

  if_both : (f g d : ℕ) (both : Bool) → (passes (reaches d) rows f && passes (reaches d) rows g) ≡ both → f < g → g < length rows →
      (0 < length (hashes_at rows f)) × (0 < length (hashes_at rows g)) →
      counted f g (if both then Some d else None) ≡ counted f g (Some d)
  if_both f g d true is lower there hashes = refl
  if_both f g d false is lower there hashes = not_counted f g d (counts ((f, g), d)) (nat_le d m) refl refl is lower there hashes

  near_counts : (f g : ℕ) (found : Option ℕ) → distance_at rows f g ≡ found → f < g → g < length rows →
      counted f g (if_reached rows f g found) ≡ counted f g found
  near_counts f g None is lower there = refl
  near_counts f g (Some d) is lower there = if_both f g d _ refl lower there (have_hashes (hashes_at rows f) (hashes_at rows g) d is)

  abbrev all_pairs : List Row
  all_pairs = pairs_below (length rows) (distance_at rows)

  filtered : (at : ℕ → ℕ → Option ℕ) → filter (is_within m) (filter counts (pairs_below (length rows) at)) ≡ pairs_below (length rows) (λ f g. counted f g (at f g))
  filtered at =
      ap (filter (is_within m)) (filter_below counts (length rows) at)
      ∙ filter_below (is_within m) (length rows) (λ f g. kept counts f g (at f g))

  same_counted : filter (is_within m) (filter counts (near_pairs rows)) ≡ filter (is_within m) (filter counts all_pairs)
  unfolding near_at
  same_counted =
      filtered (near_at rows)
      ∙ same_below (length rows) _ _ (λ f g lower there. near_counts f g (distance_at rows f g) refl lower there)
      ∙ sym (filtered (distance_at rows))

  least_of : (near : List Row) → kept (is_within m) j k (least_between R (deleted rows) near j k) ≡ least (map (λ row. row.1) (filter (is_within m) (filter counts near)))
  least_of near =
      least_within m j k (map (λ (row : Row). row.1) (filter counts near))
      ∙ ap least (filter_map_of (λ n. nat_le n m) (λ (row : Row). row.1) (filter counts near))

  same_least : kept (is_within m) j k (least_between R (deleted rows) (near_pairs rows) j k) ≡ kept (is_within m) j k (least_between R (deleted rows) all_pairs j k)
  same_least =
      least_of (near_pairs rows) ∙ ap (λ (near : List Row). least (map (λ row. row.1) near)) same_counted ∙ sym (least_of all_pairs)

  same_by : (may : Bool) →
      kept (is_within m) j k (if may then least_between R (deleted rows) (near_pairs rows) j k else None)
      ≡ kept (is_within m) j k (if may then least_between R (deleted rows) all_pairs j k else None)
  same_by true = same_least
  same_by false = refl

  same_potential : kept (is_within m) j k (potential_at R (deleted rows) (near_pairs rows) j k)
      ≡ kept (is_within m) j k (potential_at R (deleted rows) all_pairs j k)
  unfolding potential_at
  same_potential = same_by (may_pair R j k)

pub pairs_cover : PairsCover
pairs_cover r m searched =
    let n = length r.files in
    let gone = deleted r.files in
    let all : List Row = pairs_below n (distance_at r.files) in
    filter_below (is_within m) n (potential_at (related r) gone (near_pairs r.files))
    ∙ same_below n _ _ (λ j k lower there.
    same_potential (related r) r.files r.distance m searched.none_waits searched.reached j k)
    ∙ sym (filter_below (is_within m) n (potential_at (related r) gone all))

pub pages_cover : PagesCover
unfolding step admitted query_needs answer page_of
pages_cover s Console page searched =
    ap (λ (pairs : List Row). told s.desks (answers.Pairs (map named (take page.n (filter (λ row. is_behind page.after row.0) pairs))))) (pairs_cover s.kept page.at_most searched)

pub counts_cover : CountsCover
unfolding step admitted query_needs answer
counts_cover s Console m searched =
    ap (λ (pairs : List Row). told s.desks (answers.PairCount (length pairs))) (pairs_cover s.kept m searched)

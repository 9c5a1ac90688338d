-- How many rows are read for the near pairs of files.
use Rattle.std.proofs.Common.{◌≡◌, ◌∙◌, ◌<◌, ◌≤◌, ◌+◌, ◌*◌, ◌==◌, ◌||◌, ℕ, zero, suc, Bool, true, false, cond, List, [], ◌∷◌, Option, Some, None, length, map, filter, get_or, refl, sym, ap, inl, inr, arith}
use Rattle.std.specs.List.{AllPairs, sum_by}
use Rattle.std.specs.List.Sorted.{IsStrictlySortedBy}
use Rattle.std.proofs.lemmas.Bool.{cases_eq, eq-eqb, ne_eqb}
use Rattle.std.proofs.lemmas.List.{get_or-map, length-map}
use Rattle.std.proofs.lemmas.List.FromFn.{get_or-map-range_with_len, length-map-range_with_len}
use Rattle.std.proofs.lemmas.List.Kept.{AllPairs-filter}
use Rattle.std.proofs.lemmas.List.Sums.{sum_by-cons}
use Rattle.media_types.specs.Numbered.{files}
use Rattle.media_types.specs.declared.numbers.FileNo.{FileNo}
use Rattle.spare_tables.specs.EditLaws.{same_rows, value_put_other}
use Rattle.spare_tables.specs.Keys.{value_of}
use Rattle.spare_tables.specs.Order.{pair_cmp, pair_exact}
use Rattle.spare_tables.specs.PairLaws.{pair_order}
use Rattle.relation_groups.specs.Moves.{is_moved, move_to, moves}
use Rattle.relation_groups.specs.Relations.{Relations}
use Rattle.relation_groups.specs.declared.moves.Move.{Move}
use Rattle.potential_pairs.specs.Keeping.{AreNearRows, turned}
use Rattle.potential_pairs.specs.Levels.{Ascend}
use Rattle.potential_pairs.specs.Planning.{AscendByFile, has_file, is_moved_file, touched, with_changes}
use Rattle.potential_pairs.specs.Potential.{Row}
use Rattle.potential_pairs.proofs.OneFile.{apart-turned, same-test, value-turned}
use Rattle.potential_pairs.proofs.Rows.{AreApart, apart-from_ascend, ascend-filter, changed, length-put_new, same_name, sorted-with_changes, value-filter, value-with_changes, value_first, value_later}

-- ---- what passes one test passes another
module _ {X : Type 0} (p q : X → Bool) (passes : (x : X) → p x ≡ true → q x ≡ true) where
  pub length-filter-le : (xs : List X) → length (filter p xs) ≤ length (filter q xs)
  length-filter-le [] = omega arith
  length-filter-le (x ∷ xs) = by (p x) (q x) (passes x) (length-filter-le xs)
    where
      by : (b c : Bool) → (b ≡ true → c ≡ true) → length (filter p xs) ≤ length (filter q xs) → length (cond b (x ∷ filter p xs) (filter p xs)) ≤ length (cond c (x ∷ filter q xs) (filter q xs))
      by true true both rest = omega (arith, rest)
      by true false both rest = let no : false ≡ true = both refl in absurd (cc)
      by false true both rest = omega (arith, rest)
      by false false both rest = rest

-- ---- rows with new names
length-all_new : (changes rows : List Row) → AreApart changes → ((q : ℕ × ℕ) (v : ℕ) → value_of pair_cmp changes q ≡ Some v → value_of pair_cmp rows q ≡ None) → length (with_changes Some changes rows) ≡ length changes + length rows
length-all_new [] rows apart new = omega arith
length-all_new (change ∷ more) rows apart new =
    let here : value_of pair_cmp rows change.0 ≡ None = new change.0 change.1 (value_first change more change.0 refl) in
    let rest = length-all_new more _ apart.1 (later) in
    omega (arith, rest, length-put_new rows change.0 change.1 here)
  where
    later : (q : ℕ × ℕ) (v : ℕ) → value_of pair_cmp more q ≡ Some v → value_of pair_cmp (with_changes Some (change ∷ []) rows) q ≡ None
    later q v has = elim (same_name q change.0) [
      | inl same ↦ let none : value_of pair_cmp more q ≡ None = ap (value_of pair_cmp more) same ∙ apart.0 in absurd (cc)
      | inr other ↦ value_put_other pair_order pair_exact q change.0 change.1 rows other ∙ new q v (value_later change more q other ∙ has)
    ]

-- ---- the near pairs of a file, by either file
none_before : (b : Bool) (v : Option ℕ) → changed Some (cond b v None) None ≡ cond b v None
none_before true None = refl
none_before true (Some v) = refl
none_before false v = refl

none_ascend : Ascend {V = ℕ} []
unfolding IsStrictlySortedBy
none_ascend = tt

higher_rows : (near others : List Row) (file : ℕ) → AreNearRows near others → length (filter (λ row. row.0.0 == file) others) ≡ length (filter (λ row. row.0.1 == file) near)
higher_rows near others file rows =
    let higher = filter (λ (row : Row). row.0.0 == file) others in
    let second = filter (λ (row : Row). row.0.1 == file) near in
    let apart = apart-turned higher (apart-from_ascend higher (ascend-filter (λ (q : ℕ × ℕ). q.0 == file) others rows.others_sorted)) in
    let same : with_changes Some (turned higher) [] ≡ second = same_rows pair_order pair_exact (with_changes Some (turned higher) []) second
    (sorted-with_changes Some (turned higher) [] none_ascend) (ascend-filter (λ (q : ℕ × ℕ). q.1 == file) near rows.sorted) (λ q.
    value-with_changes Some (turned higher) [] q apart none_ascend
    ∙ ap (λ v. changed Some v None) (value-turned higher q.1 q.0 ∙ value-filter (λ (p : ℕ × ℕ). p.0 == file) others (q.1, q.0) ∙ ap (λ v. cond (q.1 == file) v None) (rows.turned q.0 q.1))
    ∙ none_before (q.1 == file) (value_of pair_cmp near q)
    ∙ sym (value-filter (λ (p : ℕ × ℕ). p.1 == file) near q)) in
    let turn : Row → Row = λ row. ((row.0.1, row.0.0), row.1) in
    let count = length-all_new (turned higher) [] apart (λ q v has. refl) in
    omega (arith, count, ap length same, length-map higher turn)

either : (a b : Bool) → b ≡ true → a || b ≡ true
either true b passes = refl
either false b passes = passes

first_passes : (a b : Bool) → a ≡ true → a || b ≡ true
first_passes true b passes = refl
first_passes false b passes = absurd (cc)

-- the rows of a file, with it as the lower or the higher one, are at most its near pairs
pub lower_few : (near : List Row) (file : ℕ) → length (filter (λ row. row.0.0 == file) near) ≤ length (filter (λ row. has_file file row.0) near)
lower_few near file = length-filter-le (λ (row : Row). row.0.0 == file) (λ (row : Row). has_file file row.0) (λ row passes. first_passes (file == row.0.0) (file == row.0.1) (same-test file row.0.0 ∙ passes)) near

pub higher_few : (near others : List Row) (file : ℕ) → AreNearRows near others → length (filter (λ row. row.0.0 == file) others) ≤ length (filter (λ row. has_file file row.0) near)
higher_few near others file rows =
    let few = length-filter-le (λ (row : Row). row.0.1 == file) (λ (row : Row). has_file file row.0) (λ row passes. either (file == row.0.0) (file == row.0.1) (same-test file row.0.1 ∙ passes)) near in
    omega (arith, few, higher_rows near others file rows)

-- ---- the near pairs of each moved file
-- how many near pairs the moved files have, each by itself
abbrev pub counts : List Row → List Move → ℕ
counts near moved = sum_by (λ m. length (filter (λ row. has_file m.file.0 row.0) near)) moved

abbrev times : ℕ → List Move → ℕ
times f moved = sum_by (λ m. cond (m.file.0 == f) 1 0) moved

abbrev hits : ℕ × ℕ → List Move → ℕ
hits files moved = sum_by (λ m. cond (has_file m.file.0 files) 1 0) moved

one_more : (b : Bool) (row : Row) (rows : List Row) → length (cond b (row ∷ rows) rows) ≡ cond b 1 0 + length rows
one_more true row rows = omega arith
one_more false row rows = omega arith

no_counts : (moved : List Move) → counts [] moved ≡ 0
no_counts [] = refl
no_counts (m ∷ moved) = omega (arith, sum_by-cons (λ (m : Move). length (filter (λ (row : Row). has_file m.file.0 row.0) [])) m moved, no_counts moved)

counts_first : (row : Row) (near : List Row) (moved : List Move) → counts (row ∷ near) moved ≡ hits row.0 moved + counts near moved
counts_first row near [] = refl
counts_first row near (m ∷ moved) =
    omega (
      arith,
      sum_by-cons (λ (m : Move). length (filter (λ (r : Row). has_file m.file.0 r.0) (row ∷ near))) m moved,
      sum_by-cons (λ (m : Move). length (filter (λ (r : Row). has_file m.file.0 r.0) near)) m moved,
      sum_by-cons (λ (m : Move). cond (has_file m.file.0 row.0) 1 0) m moved,
      one_more (has_file m.file.0 row.0) row (filter (λ (r : Row). has_file m.file.0 r.0) near),
      counts_first row near moved,
    )

either_one : (a b : Bool) → cond (a || b) 1 0 ≤ cond a 1 0 + cond b 1 0
either_one true b = omega arith
either_one false true = omega arith
either_one false false = omega arith

hits_parts : (files : ℕ × ℕ) (moved : List Move) → hits files moved ≤ times files.0 moved + times files.1 moved
hits_parts files [] = omega arith
hits_parts files (m ∷ moved) =
    omega (
      arith,
      sum_by-cons (λ (m : Move). cond (has_file m.file.0 files) 1 0) m moved,
      sum_by-cons (λ (m : Move). cond (m.file.0 == files.0) 1 0) m moved,
      sum_by-cons (λ (m : Move). cond (m.file.0 == files.1) 1 0) m moved,
      either_one (m.file.0 == files.0) (m.file.0 == files.1),
      hits_parts files moved,
    )

no_times : (f : ℕ) (moved : List Move) → ((k : ℕ) (d : Move) → k < length moved → f < (get_or moved k d).file.0) → times f moved ≡ 0
no_times f [] later = refl
no_times f (m ∷ moved) later =
    let here : f < m.file.0 = later zero m (omega arith) in
    let first = sum_by-cons (λ (m : Move). cond (m.file.0 == f) 1 0) m moved in
    rw (first, ne_eqb m.file.0 f (λ same. omega arith)) (omega (arith, no_times f moved (λ k d within. later (suc k) d (omega arith))))

once : (f : ℕ) (moved : List Move) → AscendByFile moved → times f moved ≤ cond (is_moved_file moved f) 1 0
once f [] ascend = omega arith
once f (m ∷ moved) ascend = elim (cases_eq m.file.0 f) [
  | inl same ↦
      let none = no_times f moved (λ k d within. let after = ascend zero (suc k) d (omega arith) (omega arith) in omega (arith, after, same)) in
      let first = sum_by-cons (λ (m : Move). cond (m.file.0 == f) 1 0) m moved in
      rw (first, eq-eqb m.file.0 f same, none) (omega arith)
  | inr other ↦
      let first = sum_by-cons (λ (m : Move). cond (m.file.0 == f) 1 0) m moved in
      let rest = once f moved (λ i j d before within. ascend (suc i) (suc j) d (omega arith) (omega arith)) in
      rw (first, ne_eqb m.file.0 f other) (omega (arith, rest))
]

both : (a b : Bool) → cond a 1 0 + cond b 1 0 ≤ 2 * cond (a || b) 1 0
both true true = omega arith
both true false = omega arith
both false true = omega arith
both false false = omega arith

-- a near pair has two files, so it is counted twice at most
pub counts-touched : (near : List Row) (moved : List Move) → AscendByFile moved → counts near moved ≤ 2 * length (touched moved near)
counts-touched [] moved ascend = omega (arith, no_counts moved)
counts-touched (row ∷ near) moved ascend =
    omega (
      arith,
      counts_first row near moved,
      hits_parts row.0 moved,
      once row.0.0 moved ascend,
      once row.0.1 moved ascend,
      both (is_moved_file moved row.0.0) (is_moved_file moved row.0.1),
      one_more (is_moved_file moved row.0.0 || is_moved_file moved row.0.1) row (touched moved near),
      counts-touched near moved ascend,
    )

-- ---- the moves of a plan
pub moves_ascend : (n : ℕ) (R Q : Relations) → AscendByFile (moves n R Q)
unfolding moves
moves_ascend n R Q = λ i j d before within.
    let numbered : ℕ → FileNo = λ k. record { 0 = k } in
    let chosen = filter (λ (f : FileNo). is_moved n R Q f.0) (files n) in
    let all : AllPairs (λ (a b : FileNo). a.0 < b.0) (files n) = λ k l e less inside.
    let long = length-map-range_with_len numbered 0 n in
    let first = ap (λ (f : FileNo). f.0) (get_or-map-range_with_len numbered 0 n k k e (omega arith) (omega arith)) in
    let second = ap (λ (f : FileNo). f.0) (get_or-map-range_with_len numbered 0 n l l e (omega arith) (omega arith)) in
    omega (arith, first, second) in
    let some = AllPairs-filter (λ (a b : FileNo). a.0 < b.0) (λ (f : FileNo). is_moved n R Q f.0) (files n) all in
    let long = length-map chosen (move_to Q) in
    let less = some i j d.file before (omega arith) in
    let first = ap (λ (m : Move). m.file.0) (get_or-map (move_to Q) chosen i d.file d (omega arith)) in
    let second = ap (λ (m : Move). m.file.0) (get_or-map (move_to Q) chosen j d.file d (omega arith)) in
    omega (arith, less, first, second)

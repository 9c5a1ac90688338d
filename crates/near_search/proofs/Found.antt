-- The pairs that a search notes are those that are near once it is done and have a file whose distance rises.
use Rattle.std.proofs.Common.{◌≡◌, ◌<◌, ◌≤◌, ◌&&◌, ℕ, zero, suc, min, Bool, true, false, nat_le, if◌then◌else◌, List, [], ◌∷◌, length, map, get_or, slice_get, Contains, Option, Some, None, refl, ap, sym, subst, ◌∙◌, inl, inr, arith}
use mathlib.Core.Bool.{false≢true}
use Rattle.std.specs.List.{All, flat_map, range_with_len}
use Rattle.std.specs.Option.{is_some, option_map, option_map_or}
use Rattle.std.proofs.lemmas.Bool.{and_parts, cases_eq, cases_lt, le-leb, le-ltb, leb-true, lt-ltb}
use Rattle.std.proofs.lemmas.List.{get_or-map, get_or_default, length-map}
use Rattle.std.proofs.lemmas.List.Elements.{Contains-append_cases}
use Rattle.std.proofs.lemmas.List.FromFn.{get_or-map-range_with_len, length-map-range_with_len}
use Rattle.std.proofs.lemmas.Option.{get_or_from_slice_get, same_Some, slice_get_within}
use Rattle.media_types.specs.Distance.{distance_of}
use Rattle.media_types.specs.Least.{least, lesser}
use Rattle.media_types.specs.Numbered.{files}
use Rattle.media_types.specs.declared.hash.Hash64.{Hash64}
use Rattle.media_types.specs.declared.numbers.FileNo.{FileNo}
use Rattle.media_types.specs.declared.numbers.HashNo.{HashNo}
use Rattle.file_records.specs.Distances.{distances}
use Rattle.file_records.specs.HeldLaws as held
use Rattle.file_records.specs.Near.{distance_at, hashes_at, if_reached, near_at}
use Rattle.file_records.specs.NearLaws.{near_symmetric}
use Rattle.file_records.specs.Searching.{is_named, is_short_of, passes, reaches, searched}
use Rattle.file_records.specs.Words.{has_hash, has_number, words_of}
use Rattle.file_records.specs.declared.file_row.FileRow.{FileRow}
use Rattle.vp_tree.specs.Nodes.{leaf, node_at, words_in}
use Rattle.vp_tree.specs.Searching.{filter_of, hit}
use Rattle.vp_tree.specs.declared.node.NodeView.{NodeView}
use Rattle.potential_pairs.specs.Planning.{Found}
use Rattle.near_search.specs.Noting.{holders_of, near_pair, noted_at, noted_near, noted_of, pair_of}
use Rattle.near_search.proofs.AfterSearch.{risen_reach, same_distance}
use Rattle.near_search.proofs.Lists.{All-filter_map, All-flat_map, Contains-filter, Contains-filter_map, Contains-flat_map}
use Rattle.near_search.proofs.NearPairs.{not_itself, pair_if_near}

-- ---- the least distance is that of two hashes
least_is : (ns : List ℕ) (d : ℕ) → least ns ≡ Some d → Contains ns d
least_is [] d is = absurd (false≢true (ap is_some is))
least_is (n ∷ ns) d is = of_rest (least ns) refl (λ m. least_is ns m) is
  where
    of_rest : (rest : Option ℕ) → least ns ≡ rest → ((m : ℕ) → least ns ≡ Some m → Contains ns m) → lesser n rest ≡ Some d → Contains (n ∷ ns) d
    of_rest None nothing later one = (zero, omega arith, same_Some n d one)
    of_rest (Some m) some later lower = elim (cases_lt m n) [
      | inl less ↦ let there = later d (some ∙ ap Some (omega (arith, same_Some (min n m) d lower))) in (suc there.0, omega (arith, there.1), there.2)
      | inr first ↦ (zero, omega arith, omega (arith, same_Some (min n m) d lower))
    ]

-- two hashes that are as far apart as the files
record AreApart (xs ys : List Hash64) (d : ℕ) : Type 0 where
  first : Hash64
  second : Hash64
  of_first : Contains xs first
  of_second : Contains ys second
  apart : distance_of first second ≡ d

row_apart : (x : Hash64) (ys : List Hash64) (d : ℕ) → Contains (map (distance_of x) ys) d → (y : Hash64) × Contains ys y × (distance_of x y ≡ d)
row_apart x ys d (k, within, is) =
    let inside : k < length ys = omega (arith, length-map ys (distance_of x)) in
    let y = get_or ys k x in
    (y, (k, inside, get_or_default ys k y x inside), sym (get_or-map (distance_of x) ys k x d inside) ∙ is)

any_apart : (xs ys : List Hash64) (d : ℕ) → Contains (distances xs ys) d → AreApart xs ys d
any_apart [] ys d there = absurd (omega (arith, there.1))
any_apart (x ∷ xs) ys d there = elim (Contains-append_cases (map (distance_of x) ys) (distances xs ys) d there) [
  | inl here ↦ let (y, of_y, is) = row_apart x ys d here in record { first = x; second = y; of_first = (zero, omega arith, refl); of_second = of_y; apart = is }
  | inr later ↦ let rest = any_apart xs ys d later in
      record { first = rest.first; second = rest.second; of_first = (suc rest.of_first.0, omega (arith, rest.of_first.1), rest.of_first.2); of_second = rest.of_second; apart = rest.apart }
]

-- ---- near files
near_reached : (rows : List FileRow) (f g : ℕ) (found : Option ℕ) (d : ℕ) → if_reached rows f g found ≡ Some d → (found ≡ Some d) × (passes (reaches d) rows f ≡ true) × (passes (reaches d) rows g ≡ true)
near_reached rows f g None d is = absurd (false≢true (ap is_some is))
near_reached rows f g (Some n) d is = both (passes (reaches n) rows f && passes (reaches n) rows g) refl is
  where
    both : (b : Bool) → (passes (reaches n) rows f && passes (reaches n) rows g) ≡ b → (if b then Some n else None) ≡ Some d → (Some n ≡ Some d) × (passes (reaches d) rows f ≡ true) × (passes (reaches d) rows g ≡ true)
    both false reached none = absurd (false≢true (ap is_some none))
    both true reached some =
        let same = same_Some n d some in
        let parts = and_parts (passes (reaches n) rows f) (passes (reaches n) rows g) reached in
        (some, subst (λ m. passes (reaches m) rows f ≡ true) same parts.0, subst (λ m. passes (reaches m) rows g ≡ true) same parts.1)

pub near_parts : (rows : List FileRow) (f g d : ℕ) → near_at rows f g ≡ Some d → (distance_at rows f g ≡ Some d) × (passes (reaches d) rows f ≡ true) × (passes (reaches d) rows g ≡ true)
unfolding near_at
near_parts rows f g d near = near_reached rows f g (distance_at rows f g) d near

pub there_if_passes : (test : FileRow → Bool) (rows : List FileRow) (k : ℕ) → passes test rows k ≡ true → k < length rows
there_if_passes test rows k passing = by_row (slice_get rows k) refl passing
  where
    by_row : (row : Option FileRow) → slice_get rows k ≡ row → option_map_or test row false ≡ true → k < length rows
    by_row None is missing = absurd (false≢true missing)
    by_row (Some row) is there = slice_get_within rows k row is

-- ---- what is noted
-- The pair is of two files that are there, the lower first, and they are near at its distance, which is within
-- the search's.
pub record IsNoted (rows : List FileRow) (d : ℕ) (x : Found) : Type 0 where
  pub lower : x.0.0 < x.1.0
  pub there : x.1.0 < length rows
  pub within : x.2 ≤ d
  pub near : near_at rows x.0.0 x.1.0 ≡ Some x.2

pair_is_noted : (rows : List FileRow) (d : ℕ) (f g : FileNo) (away : ℕ) → (f.0 ≡ g.0 → ⊥) → away ≤ d → near_at rows f.0 g.0 ≡ Some away → near_at rows g.0 f.0 ≡ Some away → IsNoted rows d (pair_of f g away)
pair_is_noted rows d f g away differ within near turned =
    let f_there = there_if_passes (reaches away) rows f.0 (near_parts rows f.0 g.0 away near).1 in
    let g_there = there_if_passes (reaches away) rows g.0 (near_parts rows f.0 g.0 away near).2 in
    elim (cases_lt f.0 g.0) [
      | inl less ↦ subst (IsNoted rows d) (ap (λ b. if b then (f, g, away) else (g, f, away)) (sym (lt-ltb f.0 g.0 less)))
          (record { lower = less; there = g_there; within = within; near = near })
      | inr more ↦ subst (IsNoted rows d) (ap (λ b. if b then (f, g, away) else (g, f, away)) (sym (le-ltb f.0 g.0 more)))
          (record { lower = omega arith; there = f_there; within = within; near = turned })
    ]

-- a file whose searched distance rises
pub record IsRisen (rows : List FileRow) (d : ℕ) (risen : List FileNo) (f : ℕ) : Type 0 where
  pub named : is_named risen f ≡ true
  pub short : passes (is_short_of d) rows f ≡ true

abbrev numbered : ℕ → FileNo
numbered k = record { 0 = k }

module _ (tree : List NodeView) (rows : List FileRow) (d : ℕ) (risen : List FileNo) where
  abbrev now : List FileRow
  now = searched d risen rows

  within_search : (f g away : ℕ) → IsRisen rows d risen f → near_at now f g ≡ Some away → away ≤ d
  within_search f g away is near = leb-true away d (sym (risen_reach d risen rows f away is.named is.short) ∙ (near_parts now f g away near).1)

  noted_pair : (f : FileNo) → IsRisen rows d risen f.0 → (g : FileNo) (x : Found) → near_pair now f g ≡ Some x → IsNoted now d x
  noted_pair f is g x pair = elim (cases_eq f.0 g.0) [
    | inl same ↦ absurd (false≢true (ap is_some (sym (not_itself now f g same) ∙ pair)))
    | inr differ ↦ by_distance (near_at now f.0 g.0) refl differ (sym (pair_if_near now f g (near_at now f.0 g.0) differ refl) ∙ pair)
  ]
    where
      by_distance : (found : Option ℕ) → near_at now f.0 g.0 ≡ found → (f.0 ≡ g.0 → ⊥) → option_map (pair_of f g) found ≡ Some x → IsNoted now d x
      by_distance None near differ none = absurd (false≢true (ap is_some none))
      by_distance (Some away) near differ some = subst (IsNoted now d) (same_Some (pair_of f g away) x some)
          (pair_is_noted now d f g away differ (within_search f.0 g.0 away is near) near (near_symmetric now g.0 f.0 ∙ near))

  pub all_noted : All (λ f. IsRisen rows d risen f.0) risen → All (IsNoted now d) (flat_map (noted_of tree rows d risen) risen)
  all_noted all =
      All-flat_map (λ f. IsRisen rows d risen f.0) (IsNoted now d) (noted_of tree rows d risen) (λ f is.
      All-flat_map (λ w. Unit {0}) (IsNoted now d) (noted_near tree rows d risen f) (λ word _.
      All-flat_map (λ h. Unit {0}) (IsNoted now d) (λ h. noted_at tree rows d risen f h.0.0) (λ h _.
      All-filter_map (IsNoted now d) (near_pair now f) (noted_pair f is) (holders_of rows h.0.0))
      (filter_of tree word d) (λ k e within. tt)) (hashes_at rows f.0) (λ k e within. tt)) risen all

  -- ---- each near file of a risen one is met
  word_at : (h : ℕ) (word : Hash64) → words_in tree ≡ words_of rows → slice_get (words_of rows) h ≡ Some word → (h < length tree) × ((node_at tree h).word ≡ word)
  word_at h word same at =
      let there : slice_get (words_in tree) h ≡ Some word = ap (λ words. slice_get words h) same ∙ at in
      let within : h < length tree = omega (arith, slice_get_within (words_in tree) h word there, length-map tree (λ (node : NodeView). node.word)) in
      (within, sym (get_or-map (λ (node : NodeView). node.word) tree h (leaf (record { 0 = 0 })) word within) ∙ get_or_from_slice_get (words_in tree) h word word there)

  hit_there : (word : Hash64) (h : ℕ) → h < length tree → distance_of word (node_at tree h).word ≤ d → Contains (filter_of tree word d) (hit tree word h)
  hit_there word h within near =
      let hits = map (hit tree word) (range_with_len 0 (length tree)) in
      let at : get_or hits h (hit tree word h) ≡ hit tree word h = get_or-map-range_with_len (hit tree word) 0 (length tree) h h (hit tree word h) within (omega arith) in
      subst (Contains (filter_of tree word d)) at
      (Contains-filter (λ (k : HashNo × ℕ). nat_le k.1 d) hits h (hit tree word h) (omega (arith, length-map-range_with_len (hit tree word) 0 (length tree)))
      (ap (λ (k : HashNo × ℕ). nat_le k.1 d) at ∙ le-leb (distance_of word (node_at tree h).word) d near))

  holder_there : (h : ℕ) (g : FileNo) → has_hash h rows g.0 ≡ true → Contains (holders_of rows h) g
  holder_there h g has =
      let n = length rows in
      let within : g.0 < n = there_if_passes (λ row. has_number (words_of rows) h row.hashes) rows g.0 has in
      let at : get_or (files n) g.0 g ≡ g = get_or-map-range_with_len numbered 0 n g.0 g.0 g within (omega arith) in
      subst (Contains (holders_of rows h)) at
      (Contains-filter (λ (f : FileNo). has_hash h rows f.0) (files n) g.0 g (omega (arith, length-map-range_with_len numbered 0 n)) (ap (λ (f : FileNo). has_hash h rows f.0) at ∙ has))

  pub is_met : words_in tree ≡ words_of rows → (f g : FileNo) (away : ℕ) → Contains risen f → IsRisen rows d risen f.0 → (f.0 ≡ g.0 → ⊥) → near_at now f.0 g.0 ≡ Some away
      → Contains (flat_map (noted_of tree rows d risen) risen) (pair_of f g away)
  is_met same f g away member is differ near =
      let distance : distance_at rows f.0 g.0 ≡ Some away = sym (same_distance d risen rows f.0 g.0) ∙ (near_parts now f.0 g.0 away near).0 in
      let apart = any_apart (hashes_at rows f.0) (hashes_at rows g.0) away (least_is (distances (hashes_at rows f.0) (hashes_at rows g.0)) away distance) in
      let (h, at, has) = held.numbered rows g.0 apart.second apart.of_second in
      let word = word_at h apart.second same at in
      let close : distance_of apart.first (node_at tree h).word ≤ d = omega (arith, within_search f.0 g.0 away is near, ap (distance_of apart.first) word.1, apart.apart) in
      let pair = pair_of f g away in
      Contains-flat_map (noted_of tree rows d risen) risen f pair member
      (Contains-flat_map (noted_near tree rows d risen f) (hashes_at rows f.0) apart.first pair apart.of_first
      (Contains-flat_map (λ (k : HashNo × ℕ). noted_at tree rows d risen f k.0.0) (filter_of tree apart.first d) (hit tree apart.first h) pair (hit_there apart.first h word.0 close)
      (Contains-filter_map (near_pair now f) (holders_of rows h) g pair (holder_there h g has) (pair_if_near now f g (Some away) differ near))))

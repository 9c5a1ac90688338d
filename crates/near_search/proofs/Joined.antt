-- The near pairs with the noted ones among them are those after the search.
use Rattle.std.proofs.Common.{◌≡◌, ◌≢◌, ◌⊎◌, ◌<◌, ◌≤◌, ◌&&◌, ◌==◌, ℕ, zero, suc, max, Bool, true, false, nat_le, nat_lt, if◌then◌else◌, List, [], ◌∷◌, length, get_or, slice_get, Contains, Option, Some, None, refl, ap, sym, ◌∙◌, inl, inr, arith}
use mathlib.Core.Bool.{false≢true}
use Rattle.std.specs.BTreeMap.{insert_entry}
use Rattle.std.specs.List.{All, flat_map}
use Rattle.std.specs.List.Sorted.{IsStrictlySortedBy}
use Rattle.std.specs.Map.{keys_of}
use Rattle.std.specs.Option.{is_some, option_map, option_map_or}
use Rattle.std.proofs.lemmas.Bool.{and_from, cases_Bool, cases_eq, cases_lt, eq-eqb, eqb-true, le-ltb, leb-true, le-leb, lt-ltb}
use Rattle.std.proofs.lemmas.List.Elements.{All-head, All-tail, All-weaker}
use Rattle.std.proofs.lemmas.List.{get_or_default}
use Rattle.std.proofs.lemmas.List.Folds.{Any-from_list_any, list_any_at}
use Rattle.std.proofs.lemmas.Option.{same_Some}
use Rattle.spare_tables.specs.Keys.{value_of}
use Rattle.spare_tables.specs.BelowLaws.{below_sorted, below_value, same_values}
use Rattle.spare_tables.specs.EditLaws.{sorted-insert_entry, value_put, value_put_other}
use Rattle.spare_tables.specs.Order.{pair_cmp, pair_exact}
use Rattle.spare_tables.specs.PairLaws.{pair_order}
use Rattle.spare_tables.specs.Pairs.{value_below}
use Rattle.media_types.specs.declared.limits.TheConstants.{MAX_DISTANCE}
use Rattle.media_types.specs.declared.numbers.FileNo.{FileNo}
use Rattle.file_records.specs.Near.{distance_at, if_reached, near_at, near_pairs}
use Rattle.file_records.specs.NearLaws.{near_symmetric}
use Rattle.file_records.specs.SearchLaws.{each, same_length}
use Rattle.file_records.specs.Searching.{is_named, passes, raised, reaches, searched}
use Rattle.file_records.specs.Words.{words_of}
use Rattle.file_records.specs.declared.file_row.FileRow.{FileRow}
use Rattle.vp_tree.specs.Nodes.{words_in}
use Rattle.vp_tree.specs.declared.node.NodeView.{NodeView}
use Rattle.potential_pairs.specs.Planning.{AreFound, Found, IsFound, with_found}
use Rattle.near_search.specs.Noting.{IsRise, noted_of, pair_of}
use Rattle.near_search.proofs.AfterSearch.{short_if_risen, same_distance, same_other, near_by_distance}
use Rattle.near_search.proofs.Found.{IsNoted, IsRisen, all_noted, is_met, near_parts}

abbrev Rows : Type 0
Rows = List ((ℕ × ℕ) × ℕ)

-- ---- rows and found pairs
abbrev name_in : Found → ℕ × ℕ
name_in x = (x.0.0, x.1.0)

same_name : (x y : ℕ × ℕ) → (x ≡ y) ⊎ (x ≢ y)
same_name x y = elim (cases_eq x.0 y.0) [
  | inr differ ↦ inr (λ same. differ (ap (λ (p : ℕ × ℕ). p.0) same))
  | inl first ↦ elim (cases_eq x.1 y.1) [
    | inr differ ↦ inr (λ same. differ (ap (λ (p : ℕ × ℕ). p.1) same))
    | inl second ↦ inl (λ i. (first i, second i))
  ]
]

sorted-with_found : (found : List Found) (near : Rows) → IsStrictlySortedBy pair_cmp (keys_of near) → IsStrictlySortedBy pair_cmp (keys_of (with_found found near))
sorted-with_found [] near sorted = sorted
sorted-with_found (x ∷ more) near sorted = sorted-with_found more (insert_entry pair_cmp near (name_in x) x.2) (sorted-insert_entry pair_order near (name_in x) x.2 sorted)

-- a name has the value that all found pairs of it have, where it had it already or was found
value-with_found : (found : List Found) (near : Rows) (q : ℕ × ℕ) (value : Option ℕ) → All (λ x. q ≡ name_in x → Some x.2 ≡ value) found
    → (value_of pair_cmp near q ≡ value) ⊎ ((x : Found) × Contains found x × (q ≡ name_in x)) → value_of pair_cmp (with_found found near) q ≡ value
value-with_found [] near q value all (inl had) = had
value-with_found [] near q value all (inr (x, member, is)) = absurd (omega (arith, member.1))
value-with_found (x ∷ more) near q value all either =
    let P : Found → Type 0 = λ y. q ≡ name_in y → Some y.2 ≡ value in
    let rows = insert_entry pair_cmp near (name_in x) x.2 in
    value-with_found more rows q value (All-tail P x more all) (elim (same_name q (name_in x)) [
      | inl same ↦ inl (ap (value_of pair_cmp rows) same ∙ value_put pair_order (name_in x) x.2 near ∙ All-head P x more all same)
      | inr other ↦ elim either [
        | inl had ↦ inl (value_put_other pair_order pair_exact q (name_in x) x.2 near other ∙ had)
        | inr (y, (zero, within, is), named) ↦ absurd (other (named ∙ ap name_in (sym is)))
        | inr (y, (suc k, within, is), named) ↦ inr (y, (k, omega arith, is), named)
      ]
    ])

-- ---- near before, near after
-- the value of a pair of two files among the near ones
near_value : (rows : List FileRow) (j k : ℕ) → j < k → k < length rows → value_of pair_cmp (near_pairs rows) (j, k) ≡ near_at rows j k
near_value rows j k lower within =
    below_value (length rows) (near_at rows) j k
    ∙ ap (λ b. if b then value_below (near_at rows) j k else None) (lt-ltb k (length rows) within)
    ∙ ap (λ b. if b then near_at rows j k else None) (lt-ltb j k lower)

no_value : (rows : List FileRow) (j k : ℕ) → (k ≤ j) ⊎ (length rows ≤ k) → value_of pair_cmp (near_pairs rows) (j, k) ≡ None
no_value rows j k (inr past) = below_value (length rows) (near_at rows) j k ∙ ap (λ b. if b then value_below (near_at rows) j k else None) (le-ltb k (length rows) past)
no_value rows j k (inl higher) =
    below_value (length rows) (near_at rows) j k
    ∙ ap (λ (found : Option ℕ). if nat_lt k (length rows) then found else None) (ap (λ b. if b then near_at rows j k else None) (le-ltb j k higher))
    ∙ either_none (nat_lt k (length rows))
  where
    either_none : (b : Bool) → ◌≡◌ {A = Option ℕ} (if b then None else None) None
    either_none true = refl
    either_none false = refl

module _ (d : ℕ) (risen : List FileNo) (rows : List FileRow) where
  abbrev now : List FileRow
  now = searched d risen rows

  -- a search makes no reach less
  farther : (m : ℕ) (named : Bool) (row : Option FileRow) → option_map_or (reaches m) row false ≡ true → option_map_or (reaches m) (option_map (λ r. if named then raised d r else r) row) false ≡ true
  farther m named None reached = absurd (false≢true reached)
  farther m false (Some row) reached = reached
  farther m true (Some row) reached = raises row.searched reached
    where
      raises : (far : Option ℕ) → option_map_or (nat_le m) far false ≡ true → nat_le m (option_map_or (max d) far d) ≡ true
      raises None no_reach = absurd (false≢true no_reach)
      raises (Some s) within = let le = leb-true m s within in le-leb m (max d s) (omega arith)

  still_reaches : (k m : ℕ) → passes (reaches m) rows k ≡ true → passes (reaches m) now k ≡ true
  still_reaches k m reached = ap (λ row. option_map_or (reaches m) row false) (each d risen rows k) ∙ farther m (is_named risen k) (slice_get rows k) reached

  -- near files stay near
  stays_near : (f g away : ℕ) → near_at rows f g ≡ Some away → near_at now f g ≡ Some away
  stays_near f g away near =
      let parts = near_parts rows f g away near in
      near_by_distance d risen rows f g (Some away) parts.0
      ∙ ap (λ b. if b then Some away else None) (and_from (passes (reaches away) now f) (passes (reaches away) now g) (still_reaches f away parts.1) (still_reaches g away parts.2))

  never_near : (f g : ℕ) → near_at now f g ≡ None → near_at rows f g ≡ None
  never_near f g none = by_distance (near_at rows f g) refl
    where
      by_distance : (found : Option ℕ) → near_at rows f g ≡ found → near_at rows f g ≡ None
      by_distance None is = is
      by_distance (Some away) is = absurd (false≢true (ap is_some (sym none ∙ stays_near f g away is)))

  -- two files whose distances don't rise are as near as they were
  same_near : (f g : ℕ) → is_named risen f ≡ false → is_named risen g ≡ false → near_at now f g ≡ near_at rows f g
  unfolding near_at
  same_near f g f_other g_other = by_distance (distance_at rows f g) (same_distance d risen rows f g)
    where
      by_distance : (found : Option ℕ) → distance_at now f g ≡ found → if_reached now f g (distance_at now f g) ≡ if_reached rows f g found
      by_distance found is = ap (if_reached now f g) is ∙ by_reach found
        where
          by_reach : (given : Option ℕ) → if_reached now f g given ≡ if_reached rows f g given
          by_reach None = refl
          by_reach (Some away) = λ i. if option_map_or (reaches away) (same_other d risen rows f f_other i) false && option_map_or (reaches away) (same_other d risen rows g g_other i) false then Some away else None

-- ---- the noted pairs among the near ones
module _ (tree : List NodeView) (rows : List FileRow) (d : ℕ) (risen : List FileNo) where
  abbrev after : List FileRow
  after = searched d risen rows

  abbrev all_found : List Found
  all_found = flat_map (noted_of tree rows d risen) risen

  abbrev numbered_file : ℕ → FileNo
  numbered_file k = record { 0 = k }

  module _ (words : words_in tree ≡ words_of rows) (long : length after ≡ length rows) (short : (k : ℕ) → is_named risen k ≡ true → IsRisen rows d risen k) (noted : All (IsNoted after d) all_found) where
    risen_member : (k : ℕ) → is_named risen k ≡ true → Contains risen (numbered_file k)
    risen_member k there =
        let found = Any-from_list_any (λ (f : FileNo). f.0 == k) risen there in
        (found.0, found.2, get_or_default risen found.0 (numbered_file k) found.1 found.2 ∙ found.3 ∙ ap numbered_file (eqb-true found.1.0 k found.4))

    found_from : (f g away : ℕ) → is_named risen f ≡ true → (f ≡ g → ⊥) → near_at after f g ≡ Some away → Contains all_found (pair_of (numbered_file f) (numbered_file g) away)
    found_from f g away there differ near = is_met tree rows d risen words (numbered_file f) (numbered_file g) away (risen_member f there) (short f there) differ near

    -- the pair was as near before, or it is found
    as_before_or_found : (j k : ℕ) → j < k → (near_at rows j k ≡ near_at after j k) ⊎ ((x : Found) × Contains all_found x × ((j, k) ≡ name_in x))
    as_before_or_found j k lower = by_distance (near_at after j k) refl
      where
        by_distance : (found : Option ℕ) → near_at after j k ≡ found → (near_at rows j k ≡ near_at after j k) ⊎ ((x : Found) × Contains all_found x × ((j, k) ≡ name_in x))
        by_distance None none = inl (never_near d risen rows j k none ∙ sym none)
        by_distance (Some away) near = elim (cases_Bool (is_named risen j)) [
          | inl there ↦ inr (_, found_from j k away there (λ same. omega arith) near, ap (λ b. name_in (if b then (numbered_file j, numbered_file k, away) else (numbered_file k, numbered_file j, away))) (sym (lt-ltb j k lower)))
          | inr other ↦ elim (cases_Bool (is_named risen k)) [
            | inl there ↦ inr (_, found_from k j away there (λ same. omega arith) (near_symmetric after k j ∙ near), ap (λ b. name_in (if b then (numbered_file k, numbered_file j, away) else (numbered_file j, numbered_file k, away))) (sym (le-ltb k j (omega arith))))
            | inr neither ↦ inl (sym (same_near d risen rows j k other neither))
          ]
        ]

    found_value : (j k : ℕ) (x : Found) → IsNoted after d x → (j, k) ≡ name_in x → Some x.2 ≡ value_of pair_cmp (near_pairs after) (j, k)
    found_value j k x is same =
        sym (ap (value_of pair_cmp (near_pairs after)) same ∙ near_value after x.0.0 x.1.0 is.lower is.there ∙ is.near)

    value_after : (j k : ℕ) → value_of pair_cmp (with_found all_found (near_pairs rows)) (j, k) ≡ value_of pair_cmp (near_pairs after) (j, k)
    value_after j k = value-with_found all_found (near_pairs rows) (j, k) (value_of pair_cmp (near_pairs after) (j, k))
        (All-weaker (IsNoted after d) (λ x. (j, k) ≡ name_in x → Some x.2 ≡ value_of pair_cmp (near_pairs after) (j, k)) (found_value j k) all_found noted)
        (elim (cases_lt j k) [
          | inr higher ↦ inl (no_value rows j k (inl higher) ∙ sym (no_value after j k (inl higher)))
          | inl lower ↦ elim (cases_lt k (length rows)) [
            | inr past ↦ inl (no_value rows j k (inr past) ∙ sym (no_value after j k (inr (omega arith))))
            | inl within ↦ elim (as_before_or_found j k lower) [
              | inl same ↦ inl (near_value rows j k lower within ∙ same ∙ sym (near_value after j k lower (omega arith)))
              | inr found ↦ inr found
            ]
          ]
        ])

    pub near_after : with_found all_found (near_pairs rows) ≡ near_pairs after
    near_after = same_values (with_found all_found (near_pairs rows)) (near_pairs after)
        (sorted-with_found all_found (near_pairs rows) (below_sorted (length rows) (near_at rows)))
        (below_sorted (length after) (near_at after)) value_after

    is_found : d ≤ MAX_DISTANCE → (x : Found) → IsNoted after d x → IsFound (length rows) (near_pairs rows) x
    is_found shallow x is = record {
      lower = is.lower;
      there = omega (arith, is.there);
      shallow = omega (arith, is.within);
      same = λ e before.
          let near = stays_near d risen rows x.0.0 x.1.0 e (sym (near_value rows x.0.0 x.1.0 is.lower (omega (arith, is.there))) ∙ before) in
          same_Some e x.2 (sym near ∙ is.near);
    }

    pub are_found : d ≤ MAX_DISTANCE → AreFound (length rows) (near_pairs rows) all_found
    are_found shallow = record {
      each = All-weaker (IsNoted after d) (IsFound (length rows) (near_pairs rows)) (is_found shallow) all_found noted;
      alike = All-weaker (IsNoted after d) (λ a. All (λ b. a.0 ≡ b.0 → a.1 ≡ b.1 → a.2 ≡ b.2) all_found) (λ a is.
          All-weaker (IsNoted after d) (λ b. a.0 ≡ b.0 → a.1 ≡ b.1 → a.2 ≡ b.2) (λ b also first second.
          same_Some a.2 b.2 (sym is.near ∙ (λ i. near_at after (first i).0 (second i).0) ∙ also.near)) all_found noted) all_found noted;
    }

-- ---- a whole search
named_at : (risen : List FileNo) → All (λ f. is_named risen f.0 ≡ true) risen
named_at risen = λ k d within. list_any_at (λ f. f.0 == (get_or risen k d).0) risen k d within (eq-eqb (get_or risen k d).0 (get_or risen k d).0 refl)

pub found_right : (tree : List NodeView) (rows : List FileRow) (d : ℕ) (risen : List FileNo) → words_in tree ≡ words_of rows → IsRise d rows risen → d ≤ MAX_DISTANCE
    → AreFound (length rows) (near_pairs rows) (flat_map (noted_of tree rows d risen) risen)
    × (with_found (flat_map (noted_of tree rows d risen) risen) (near_pairs rows) ≡ near_pairs (searched d risen rows))
found_right tree rows d risen words is shallow =
    let long = same_length d risen rows in
    let short : (k : ℕ) → is_named risen k ≡ true → IsRisen rows d risen k = λ k named. record { named = named; short = short_if_risen d rows risen k is named } in
    let all = All-weaker (λ (f : FileNo). is_named risen f.0 ≡ true) (λ (f : FileNo). IsRisen rows d risen f.0) (λ f. short f.0) risen (named_at risen) in
    let noted = all_noted tree rows d risen all in (
      are_found tree rows d risen words long short noted shallow,
      near_after tree rows d risen words long short noted,
    )

-- Near pairs that are named by their files are those between two groups.
use Rattle.std.proofs.Common.{◌≡◌, ◌∙◌, ◌<◌, ◌+◌, ◌==◌, ℕ, Bool, true, false, cond, ◌&&◌, List, [], ◌∷◌, Option, Some, None, filter, map, refl, sym, ap, inl, inr, arith}
use Rattle.std.proofs.lemmas.Bool.{and_parts, cases_Bool, false_from_ne_true, or_cases, eqb-true, eq-eqb}
use Rattle.std.proofs.lemmas.Bool.Decides.{nat_tests}
use Rattle.spare_tables.specs.Keys.{value_of}
use Rattle.spare_tables.specs.Order.{pair_cmp}
use Rattle.relation_groups.specs.Relations.{Relations}
use Rattle.media_types.specs.Least.{least}
use Rattle.potential_pairs.specs.Keeping.{AreTallyRows}
use Rattle.potential_pairs.specs.Naming.{AreCounted, count_named, kings_of, live_name, name_of, weight}
use Rattle.potential_pairs.specs.Potential.{AreOf, PairsView, Row, count_between, distances_between, is_across, is_between, is_live, may_pair, potential_at}
use Rattle.potential_pairs.specs.Tallies.{IsTallyOf, count_at}
use Rattle.potential_pairs.specs.declared.tally.Tally.{Tally}
use Rattle.potential_pairs.proofs.Counts.{count-cons}
use Rattle.potential_pairs.proofs.Least.{count_equal, one_if, equal-cons, least-of_tally}

named_if : (may : Bool) (kings name : ℕ × ℕ) → cond may (Some kings) None ≡ Some name → (kings ≡ name) × (may ≡ true)
named_if true kings name h = (cc, refl)
named_if false kings name h = cc

-- the kings of two files, in either order
kings_across : (R : Relations) (f g j k : ℕ) → j < k → is_across R j k (f, g) ≡ true → kings_of R f g ≡ (j, k)
kings_across R f g j k lower across = elim (or_cases _ _ across) [
  | inl straight ↦
      let parts = and_parts _ _ straight in
      let first : R.king f ≡ j = eqb-true _ _ parts.0 in
      let second : R.king g ≡ k = eqb-true _ _ parts.1 in
      rw (first, second) (grind (arith, nat_tests))
  | inr turned ↦
      let parts = and_parts _ _ turned in
      let first : R.king f ≡ k = eqb-true _ _ parts.0 in
      let second : R.king g ≡ j = eqb-true _ _ parts.1 in
      rw (first, second) (grind (arith, nat_tests))
]

-- a near pair between two groups that may be a pair names that pair
named_if_across : (R : Relations) (f g j k : ℕ) → may_pair R j k ≡ true → is_across R j k (f, g) ≡ true → name_of R f g ≡ Some (j, k)
named_if_across R f g j k may across =
    let lower : j < k = grind (arith, nat_tests) in
    let kings = kings_across R f g j k lower across in
    ap (λ (name : ℕ × ℕ). cond (may_pair R name.0 name.1) (Some name) None) kings ∙ ap (λ passes. cond passes (Some (j, k)) None) may

across_itself : (R : Relations) (f g : ℕ) → is_across R (kings_of R f g).0 (kings_of R f g).1 (f, g) ≡ true
across_itself R f g = grind (arith, nat_tests)

across_if_named : (R : Relations) (f g : ℕ) (name : ℕ × ℕ) → name_of R f g ≡ Some name → (may_pair R name.0 name.1 ≡ true) × (is_across R name.0 name.1 (f, g) ≡ true)
across_if_named R f g name named =
    let kings = named_if (may_pair R (kings_of R f g).0 (kings_of R f g).1) (kings_of R f g) name named in (
      ap (λ (n : ℕ × ℕ). may_pair R n.0 n.1) (sym kings.0) ∙ kings.1,
      ap (λ (n : ℕ × ℕ). is_across R n.0 n.1 (f, g)) (sym kings.0) ∙ across_itself R f g,
    )

-- ---- what a near pair weighs
-- what it weighs by the test of two groups
abbrev weight_between : Relations → List ℕ → ℕ → ℕ → Row → ℕ → ℕ
weight_between R gone j k row d = cond (may_pair R j k) (cond (is_between R gone j k row) (one_if (row.1 == d)) 0) 0

abbrev nothing : ℕ
nothing = 0

nothing_either : (may : Bool) → nothing ≡ cond may nothing nothing
nothing_either true = refl
nothing_either false = refl

abbrev named_weight : Relations → ℕ → ℕ → Row → ℕ → ℕ
named_weight R j k row d = cond (may_pair R j k) (cond (is_across R j k row.0) (one_if (row.1 == d)) 0) 0

named-weight : (R : Relations) (j k : ℕ) (row : Row) (d : ℕ) → weight (name_of R row.0.0 row.0.1) row.1 (j, k) d ≡ named_weight R j k row d
named-weight R j k row d = by (name_of R row.0.0 row.0.1) refl where
  none_may : ((may_pair R j k ≡ true) → (is_across R j k row.0 ≡ true) → ⊥) → 0 ≡ named_weight R j k row d
  none_may never = elim (cases_Bool (may_pair R j k)) [
    | inl may ↦ let apart = false_from_ne_true (is_across R j k row.0) (never may) in rw (may, apart) refl
    | inr may ↦ rw may refl
  ]

  by : (own : Option (ℕ × ℕ)) → name_of R row.0.0 row.0.1 ≡ own → weight own row.1 (j, k) d ≡ named_weight R j k row d
  by None none = none_may (λ may across. let named = named_if_across R row.0.0 row.0.1 j k may across in cc)
  by (Some own) named =
      let both = across_if_named R row.0.0 row.0.1 own named in
      elim (cases_Bool (own.0 == j && own.1 == k)) [
        | inl same ↦
            let parts = and_parts (own.0 == j) (own.1 == k) same in
            let first : own.0 ≡ j = eqb-true own.0 j parts.0 in
            let second : own.1 ≡ k = eqb-true own.1 k parts.1 in
            let may : may_pair R j k ≡ true = rw (first, second) at both.0 in
            let across : is_across R j k row.0 ≡ true = rw (first, second) at both.1 in
            rw (may, across, same) refl
        | inr apart ↦ rw apart (none_may (λ may across.
            let again = named_if_across R row.0.0 row.0.1 j k may across in
            let is : own ≡ (j, k) = cc in
            let here : own.0 == j && own.1 == k ≡ true = rw is (rw (eq-eqb j j refl, eq-eqb k k refl) refl) in cc))
      ]

live-weight : (R : Relations) (gone : List ℕ) (j k : ℕ) (row : Row) (d : ℕ) → weight (live_name R gone row.0) row.1 (j, k) d ≡ weight_between R gone j k row d
unfolding live_name
live-weight R gone j k row d = by (is_live gone row.0.0) (is_live gone row.0.1) where
  by : (first second : Bool) → weight (cond (first && second) (name_of R row.0.0 row.0.1) None) row.1 (j, k) d
      ≡ cond (may_pair R j k) (cond (first && (second && is_across R j k row.0)) (one_if (row.1 == d)) 0) 0
  by true true = named-weight R j k row d
  by true false = nothing_either (may_pair R j k)
  by false second = nothing_either (may_pair R j k)

-- ---- how many near pairs there are between two groups
-- the distances that count for a name
abbrev pub distances_for : Relations → List ℕ → List Row → ℕ → ℕ → List ℕ
distances_for R gone near j k = cond (may_pair R j k) (distances_between R gone near j k) []

distances-cons : (R : Relations) (gone : List ℕ) (row : Row) (near : List Row) (j k d : ℕ)
    → count_equal d (distances_for R gone (row ∷ near) j k) ≡ weight_between R gone j k row d + count_equal d (distances_for R gone near j k)
distances-cons R gone row near j k d = by (may_pair R j k) (is_between R gone j k row) where
  by : (may passes : Bool) → count_equal d (cond may (map (λ (r : Row). r.1) (cond passes (row ∷ filter (is_between R gone j k) near) (filter (is_between R gone j k) near))) [])
      ≡ cond may (cond passes (one_if (row.1 == d)) 0) 0 + count_equal d (cond may (distances_between R gone near j k) [])
  by true true = equal-cons d row.1 (distances_between R gone near j k)
  by true false = omega arith
  by false passes = omega arith

pub named-between : (R : Relations) (gone : List ℕ) (near : List Row) (j k d : ℕ) → count_named (live_name R gone) near (j, k) d ≡ count_equal d (distances_for R gone near j k)
named-between R gone [] j k d = by (may_pair R j k) where
  none : List ℕ
  none = []

  by : (may : Bool) → 0 ≡ count_equal d (cond may none none)
  by true = refl
  by false = refl
named-between R gone (row ∷ near) j k d =
    omega (arith, count-cons (j, k) d (live_name R gone) row near, live-weight R gone j k row d, named-between R gone near j k d, distances-cons R gone row near j k d)

count_between-is : (R : Relations) (gone : List ℕ) (near : List Row) (j k d : ℕ) → count_between R gone near j k d ≡ count_equal d (distances_for R gone near j k)
unfolding count_between
count_between-is R gone near j k d = by (may_pair R j k) where
  by : (may : Bool) → cond may (count_equal d (distances_between R gone near j k)) 0 ≡ count_equal d (cond may (distances_between R gone near j k) [])
  by true = refl
  by false = refl

potential_at-is : (R : Relations) (gone : List ℕ) (near : List Row) (j k : ℕ) → potential_at R gone near j k ≡ least (distances_for R gone near j k)
unfolding potential_at
potential_at-is R gone near j k = by (may_pair R j k) where
  by : (may : Bool) → cond may (least (distances_between R gone near j k)) None ≡ least (cond may (distances_between R gone near j k) [])
  by true = refl
  by false = refl

-- ---- the potential pairs are those of the groups exactly where the tallies count the near pairs by their names
pub of-counted : (R : Relations) (rows : PairsView) → AreTallyRows rows.tallies rows.pairs → AreCounted (live_name R rows.gone) rows → AreOf R rows
unfolding AreCounted
of-counted R rows kept counted =
    let count : (j k d : ℕ) → count_at (value_of pair_cmp rows.tallies (j, k)) d ≡ count_equal d (distances_for R rows.gone rows.near j k) =
    λ j k d. counted (j, k) d ∙ named-between R rows.gone rows.near j k d in
    record {
      sorted = kept.pairs_sorted;
      each = λ j k. kept.least (j, k) ∙ least-of_tally (value_of pair_cmp rows.tallies (j, k)) (distances_for R rows.gone rows.near j k) (count j k) ∙ sym (potential_at-is R rows.gone rows.near j k);
      tallied = λ j k. tally_of j k (value_of pair_cmp rows.tallies (j, k)) refl (count j k);
    } where
      tally_of : (j k : ℕ) (found : Option Tally) → value_of pair_cmp rows.tallies (j, k) ≡ found → ((d : ℕ) → count_at found d ≡ count_equal d (distances_for R rows.gone rows.near j k)) → IsTallyOf (count_between R rows.gone rows.near j k) found
      tally_of j k None is count = λ d. count_between-is R rows.gone rows.near j k d ∙ sym (count d)
      tally_of j k (Some tally) is count = (λ d. count d ∙ sym (count_between-is R rows.gone rows.near j k d), kept.some (j, k) tally is)

pub counted-of : (R : Relations) (rows : PairsView) → AreOf R rows → AreCounted (live_name R rows.gone) rows
unfolding AreCounted
counted-of R rows of = λ name d.
    tally_count (value_of pair_cmp rows.tallies name) (count_between R rows.gone rows.near name.0 name.1) (of.tallied name.0 name.1) d
    ∙ count_between-is R rows.gone rows.near name.0 name.1 d ∙ sym (named-between R rows.gone rows.near name.0 name.1 d) where
      tally_count : (found : Option Tally) (count : ℕ → ℕ) → IsTallyOf count found → (d : ℕ) → count_at found d ≡ count d
      tally_count None count is d = sym (is d)
      tally_count (Some tally) count is d = is.0 d

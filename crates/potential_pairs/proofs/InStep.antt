-- Names by distance stay in step with distances by name.
use Rattle.std.proofs.Common.{◌≡◌, ◌≢◌, ◌⊎◌, ◌∙◌, ◌↔◌, ◌≤◌, ◌<◌, ◌+◌, ◌==◌, ◌^◌, ℕ, cond, count_by, get_or, length, List, [], ◌∷◌, All, Option, Some, None, refl, sym, ap, subst, inl, inr, arith}
use Rattle.std.specs.BTreeMap.{is_at}
use Rattle.std.specs.List.{Contains}
use Rattle.std.specs.Map.{keys_of, values_of}
use Rattle.std.specs.Option.{IfSome}
use Rattle.std.proofs.lemmas.Bool.{cases_Bool, eq-eqb}
use Rattle.std.proofs.lemmas.List.Elements.{All-head, All-tail}
use Rattle.std.proofs.lemmas.List.Sums.{count_by-le-length}
use Rattle.std.proofs.lemmas.Map.Entries.{length-values_of, lookup_head, lookup_tail, sum_by-insert_entry, sum_by-remove_entry}
use Rattle.std.proofs.lemmas.Map.Views.{All-keys-insert_entry, All-map-remove_entry, All-values-insert_entry}
use Rattle.media_types.specs.declared.limits.TheConstants.{MAX_DISTANCE}
use Rattle.spare_tables.specs.Keys.{value_of}
use Rattle.spare_tables.specs.Order.{pair_cmp}
use Rattle.spare_tables.specs.PairLaws.{pair_order}
use Rattle.potential_pairs.specs.Levels.{AreInStep, Ascend, IsDistance, IsLevelOf, IsName, one_at}
use Rattle.potential_pairs.specs.Planning.{with_value}
use Rattle.potential_pairs.specs.Potential.{Row}
use Rattle.potential_pairs.proofs.Counting.{one_at-option}
use Rattle.potential_pairs.proofs.Rows.{same_name, set_here, set_other, sorted-with_value}

-- ---- the old distance of a name
value-shallow : (rows : List Row) (name : ℕ × ℕ) → All IsDistance (values_of rows) → IfSome (value_of pair_cmp rows name) IsDistance
value-shallow [] name shallow = tt
value-shallow (row ∷ rows) name shallow = elim (cases_Bool (is_at (pair_cmp name) row.0)) [
  | inl here ↦ rw (lookup_head (is_at (pair_cmp name)) row rows here) (All-head IsDistance row.1 (values_of rows) shallow)
  | inr past ↦ rw (lookup_tail (is_at (pair_cmp name)) row rows past) (value-shallow rows name (All-tail IsDistance row.1 (values_of rows) shallow))
]

pub old-shallow : (rows : List Row) (levels : List (ℕ × ℕ × ℕ)) (counts : List ℕ) (name : ℕ × ℕ) (old : Option ℕ) → AreInStep rows levels counts
    → old ≡ value_of pair_cmp rows name → IfSome old IsDistance
old-shallow rows levels counts name old step is = rw is (value-shallow rows name step.shallow)

-- how many names have a distance
abbrev count_at : ℕ → List Row → ℕ
count_at e rows = count_by (λ v. v == e) (values_of rows)

count-set : (rows : List Row) (name : ℕ × ℕ) (d : Option ℕ) (e : ℕ) → Ascend rows → count_at e (with_value rows name d) + one_at e (value_of pair_cmp rows name) ≡ count_at e rows + one_at e d
count-set rows name None e sorted =
    let sums = sum_by-remove_entry (λ v. cond (v == e) 1 0) (is_at (pair_cmp name)) rows in
    omega (arith, sums, one_at-option e (value_of pair_cmp rows name))
count-set rows name (Some d) e sorted =
    let sums = sum_by-insert_entry (λ v. cond (v == e) 1 0) pair_order rows name d sorted in
    omega (arith, sums, one_at-option e (value_of pair_cmp rows name))

counted : (rows : List Row) (name : ℕ × ℕ) (d : ℕ) → value_of pair_cmp rows name ≡ Some d → 1 ≤ count_at d rows
counted rows name d has =
    let sums = sum_by-remove_entry (λ v. cond (v == d) 1 0) (is_at (pair_cmp name)) rows in
    let here : one_at d (value_of pair_cmp rows name) ≡ 1 = rw (has, eq-eqb d d refl) refl in
    omega (arith, sums, one_at-option d (value_of pair_cmp rows name), here)

pub old-counted : (rows : List Row) (levels : List (ℕ × ℕ × ℕ)) (counts : List ℕ) (name : ℕ × ℕ) (old : Option ℕ) → AreInStep rows levels counts
    → old ≡ value_of pair_cmp rows name → IfSome old (λ d. 1 ≤ get_or counts d 0)
old-counted rows levels counts name None step is = tt
old-counted rows levels counts name (Some d) step is =
    let shallow : IfSome (Some d) IsDistance = old-shallow rows levels counts name (Some d) step is in
    omega (arith, step.count d shallow, counted rows name d (sym is))

-- there is room for one more in the count of the new distance
pub new-counted : (rows : List Row) (levels : List (ℕ × ℕ × ℕ)) (counts left : List ℕ) (name : ℕ × ℕ) (d : Option ℕ) → AreInStep rows levels counts
    → IfSome d IsDistance → length (with_value rows name d) < 2 ^ 64 → ((e : ℕ) → get_or left e 0 + one_at e (value_of pair_cmp rows name) ≡ get_or counts e 0)
    → IfSome d (λ e. get_or left e 0 + 1 < 2 ^ 64)
new-counted rows levels counts left name None step shallow fits took = tt
new-counted rows levels counts left name (Some d) step shallow fits took =
    let now = with_value rows name (Some d) in
    let one : one_at d (Some d) ≡ 1 = rw (eq-eqb d d refl) refl in
    omega (arith, took d, step.count d shallow, count-set rows name (Some d) d step.sorted, one, count_by-le-length (λ v. v == d) (values_of now), length-values_of now, fits)

-- ---- a name and its level
level-name : (name : ℕ × ℕ) (d : Option ℕ) (e j k : ℕ) → IsLevelOf name d (e, j, k) → ((j, k) ≡ name) × (d ≡ Some e)
level-name name None e j k level = absurd level
level-name name (Some d) e j k level =
    (λ i. ((level i).1, (level i).2), ap Some (sym (ap (λ (t : ℕ × ℕ × ℕ). t.0) level)))

level-at : (name : ℕ × ℕ) (d : Option ℕ) (e j k : ℕ) → (j, k) ≡ name → d ≡ Some e → IsLevelOf name d (e, j, k)
level-at name None e j k same is = cc
level-at name (Some d) e j k same is =
    let here : e ≡ d = cc in
    λ i. (here i, (same i).0, (same i).1)

named-set : (rows : List Row) (name : ℕ × ℕ) (d : Option ℕ) → All IsName (keys_of rows) → IsName name → All IsName (keys_of (with_value rows name d))
named-set rows name None all this = All-map-remove_entry (is_at (pair_cmp name)) (λ (row : Row). row.0) IsName rows all
named-set rows name (Some d) all this = All-keys-insert_entry pair_cmp name d IsName rows all this

shallow-set : (rows : List Row) (name : ℕ × ℕ) (d : Option ℕ) → All IsDistance (values_of rows) → IfSome d IsDistance → All IsDistance (values_of (with_value rows name d))
shallow-set rows name None all this = All-map-remove_entry (is_at (pair_cmp name)) (λ (row : Row). row.1) IsDistance rows all
shallow-set rows name (Some d) all this = All-values-insert_entry pair_cmp name d IsDistance rows all this

module _ (rows : List Row) (levels left entered : List (ℕ × ℕ × ℕ)) (counts less more : List ℕ) (name : ℕ × ℕ) (d : Option ℕ) (step : AreInStep rows levels counts)
    (leaves : (t : ℕ × ℕ × ℕ) → Contains left t ↔ (Contains levels t × ¬ (IsLevelOf name (value_of pair_cmp rows name) t)))
    (enters : (t : ℕ × ℕ × ℕ) → Contains entered t ↔ (Contains left t ⊎ IsLevelOf name d t)) where
  level-here : (e j k : ℕ) → (j, k) ≡ name → Contains entered (e, j, k) ↔ (value_of pair_cmp (with_value rows name d) (j, k) ≡ Some e)
  level-here e j k same =
      let here : value_of pair_cmp (with_value rows name d) (j, k) ≡ d = ap (value_of pair_cmp (with_value rows name d)) same ∙ set_here rows name d step.sorted in (
        λ there. here ∙ elim ((enters (e, j, k)).0 there) [
          | inr new ↦ (level-name name d e j k new).1
          | inl stayed ↦
              let both = (leaves (e, j, k)).0 stayed in
              let was : value_of pair_cmp rows name ≡ Some e = ap (value_of pair_cmp rows) (sym same) ∙ (step.level e j k).0 both.0 in
              absurd (both.1 (level-at name (value_of pair_cmp rows name) e j k same was))
        ],
        λ has. (enters (e, j, k)).1 (inr (level-at name d e j k same (sym here ∙ has))),
      )

  level-other : (e j k : ℕ) → (j, k) ≢ name → Contains entered (e, j, k) ↔ (value_of pair_cmp (with_value rows name d) (j, k) ≡ Some e)
  level-other e j k other =
      let there : value_of pair_cmp (with_value rows name d) (j, k) ≡ value_of pair_cmp rows (j, k) = set_other rows name d (j, k) step.sorted other in (
        λ level. there ∙ elim ((enters (e, j, k)).0 level) [
          | inr new ↦ absurd (other (level-name name d e j k new).0)
          | inl stayed ↦ (step.level e j k).0 ((leaves (e, j, k)).0 stayed).0
        ],
        λ has. (enters (e, j, k)).1 (inl ((leaves (e, j, k)).1 ((step.level e j k).1 (sym there ∙ has), λ old. other (level-name name (value_of pair_cmp rows name) e j k old).0))),
      )

  pub in_step-set : IsName name → IfSome d IsDistance → ((e : ℕ) → get_or less e 0 + one_at e (value_of pair_cmp rows name) ≡ get_or counts e 0)
      → ((e : ℕ) → get_or more e 0 ≡ get_or less e 0 + one_at e d) → AreInStep (with_value rows name d) entered more
  in_step-set this shallow took put = record {
    sorted = sorted-with_value rows name d step.sorted;
    named = named-set rows name d step.named this;
    shallow = shallow-set rows name d step.shallow shallow;
    level = λ e j k. elim (same_name (j, k) name) [ inl same ↦ level-here e j k same | inr other ↦ level-other e j k other ];
    count = λ e within. omega (arith, put e, took e, step.count e within, count-set rows name d e step.sorted);
  }

pub value-within : (rows : List Row) → All IsDistance (values_of rows) → (q : ℕ × ℕ) (e : ℕ) → value_of pair_cmp rows q ≡ Some e → e ≤ MAX_DISTANCE
value-within rows shallow q e has = subst (λ found. IfSome found IsDistance) has (value-shallow rows q shallow)

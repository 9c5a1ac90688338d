-- How many near pairs have a name and a distance, once a near pair is added or one gets another name.
use Rattle.std.proofs.Common.{◌≡◌, ◌≢◌, ◌∙◌, ◌+◌, ◌==◌, ◌&&◌, ℕ, true, List, [], ◌∷◌, Option, Some, None, refl, sym, ap, inl, inr, arith}
use Rattle.std.specs.BTreeMap.{insert_entry}
use Rattle.std.proofs.lemmas.Bool.{and_parts, cases_Bool, eq-eqb, eqb-true}
use Rattle.std.proofs.lemmas.List.Sums.{sum_by-cons}
use Rattle.spare_tables.specs.KeyLaws.{by_ordering}
use Rattle.spare_tables.specs.Keys.{value_of}
use Rattle.spare_tables.specs.Order.{pair_cmp, pair_exact}
use Rattle.potential_pairs.specs.Levels.{Ascend, one_at}
use Rattle.potential_pairs.specs.Naming.{count_named, weight}
use Rattle.potential_pairs.specs.Potential.{Row}
use Rattle.potential_pairs.proofs.Rows.{ascend-tail, none_later, same_name, value_first, value_later}

pub weight-same : (own q : ℕ × ℕ) (e d : ℕ) → q ≡ own → weight (Some own) e q d ≡ one_at d (Some e)
weight-same own q e d same =
    let first : own.0 == q.0 ≡ true = eq-eqb own.0 q.0 (ap (λ (p : ℕ × ℕ). p.0) (sym same)) in
    let second : own.1 == q.1 ≡ true = eq-eqb own.1 q.1 (ap (λ (p : ℕ × ℕ). p.1) (sym same)) in
    rw (first, second) refl

pub weight-other : (own q : ℕ × ℕ) (e d : ℕ) → q ≢ own → weight (Some own) e q d ≡ 0
weight-other own q e d other = elim (cases_Bool (own.0 == q.0 && own.1 == q.1)) [
  | inl same ↦
      let parts = and_parts (own.0 == q.0) (own.1 == q.1) same in
      let first : q.0 ≡ own.0 = sym (eqb-true own.0 q.0 parts.0) in
      let second : q.1 ≡ own.1 = sym (eqb-true own.1 q.1 parts.1) in
      absurd (other (λ i. (first i, second i)))
  | inr apart ↦ rw apart refl
]

module _ (name : ℕ × ℕ) (d : ℕ) where
  pub count-cons : (naming : ℕ × ℕ → Option (ℕ × ℕ)) (row : Row) (near : List Row)
      → count_named naming (row ∷ near) name d ≡ weight (naming row.0) row.1 name d + count_named naming near name d
  count-cons naming row near = sum_by-cons (λ (r : Row). weight (naming r.0) r.1 name d) row near

  -- a near pair that wasn't there counts for its name
  pub count-put : (naming : ℕ × ℕ → Option (ℕ × ℕ)) (near : List Row) (files : ℕ × ℕ) (e : ℕ) → value_of pair_cmp near files ≡ None
      → count_named naming (insert_entry pair_cmp near files e) name d ≡ count_named naming near name d + weight (naming files) e name d
  count-put naming [] files e none = omega (arith, count-cons naming (files, e) [])
  count-put naming (row ∷ near) files e none = by_ordering (pair_cmp files row.0)
      (λ less. rw less (omega (arith, count-cons naming (files, e) (row ∷ near))))
      (λ equal. let has = value_first row near files (pair_exact files row.0 equal) in cc)
      (λ greater.
      let rest = count-put naming near files e (rw greater at none) in
      rw greater (omega (arith, rest, count-cons naming row near, count-cons naming row (insert_entry pair_cmp near files e))))

  -- two ways of naming that agree at each near pair
  pub count-same : (old new : ℕ × ℕ → Option (ℕ × ℕ)) (near : List Row) → Ascend near
      → ((files : ℕ × ℕ) (e : ℕ) → value_of pair_cmp near files ≡ Some e → new files ≡ old files) → count_named new near name d ≡ count_named old near name d
  count-same old new [] sorted agree = refl
  count-same old new (row ∷ near) sorted agree =
      let here = ap (λ own. weight own row.1 name d) (agree row.0 row.1 (value_first row near row.0 refl)) in
      let rest = count-same old new near (ascend-tail row near sorted) (λ files e has. agree files e (value_later row near files (λ same.
      let none = none_later row near sorted in let moved = ap (value_of pair_cmp near) same in cc) ∙ has)) in
      omega (arith, here, rest, count-cons old row near, count-cons new row near)

  -- one near pair gets another name
  pub count-renamed : (old new : ℕ × ℕ → Option (ℕ × ℕ)) (near : List Row) (files : ℕ × ℕ) (e : ℕ) → Ascend near → value_of pair_cmp near files ≡ Some e
      → ((q : ℕ × ℕ) → q ≢ files → new q ≡ old q)
      → count_named new near name d + weight (old files) e name d ≡ count_named old near name d + weight (new files) e name d
  count-renamed old new [] files e sorted has others = cc
  count-renamed old new (row ∷ near) files e sorted has others = elim (same_name files row.0) [
    | inl same ↦
        let is : Some row.1 ≡ Some e = sym (value_first row near files same) ∙ has in
        let distance : row.1 ≡ e = cc in
        let none : value_of pair_cmp near files ≡ None = ap (value_of pair_cmp near) same ∙ none_later row near sorted in
        let rest = count-same old new near (ascend-tail row near sorted) (λ q v there. others q (λ here. let moved = ap (value_of pair_cmp near) here in cc)) in
        let was = ap (λ (own : ℕ × ℕ). weight (old own) row.1 name d) same ∙ ap (λ v. weight (old row.0) v name d) distance in
        let old_weight : weight (old row.0) row.1 name d ≡ weight (old files) e name d = ap (λ (own : ℕ × ℕ). weight (old own) row.1 name d) (sym same) ∙ ap (λ v. weight (old files) v name d) distance in
        let new_weight : weight (new row.0) row.1 name d ≡ weight (new files) e name d = ap (λ (own : ℕ × ℕ). weight (new own) row.1 name d) (sym same) ∙ ap (λ v. weight (new files) v name d) distance in
        omega (arith, rest, old_weight, new_weight, count-cons old row near, count-cons new row near)
    | inr other ↦
        let here = ap (λ own. weight own row.1 name d) (others row.0 (λ same. other (sym same))) in
        let rest = count-renamed old new near files e (ascend-tail row near sorted) (sym (value_later row near files other) ∙ has) others in
        omega (arith, here, rest, count-cons old row near, count-cons new row near)
  ]

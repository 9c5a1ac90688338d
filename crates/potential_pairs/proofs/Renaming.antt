-- Near pairs get other names, one after another.
use Rattle.std.proofs.Common.{◌≡◌, ◌∙◌, ◌<◌, ◌+◌, ◌-◌, ℕ, zero, suc, Bool, true, false, cond, List, [], ◌∷◌, Option, Some, None, length, drop, filter, get_or, refl, sym, ap, subst, arith}
use Rattle.std.specs.Option.{is_some}
use Rattle.std.proofs.lemmas.List.{drop_all, drop_more}
use Rattle.spare_tables.specs.Keys.{value_of}
use Rattle.spare_tables.specs.Order.{pair_cmp}
use Rattle.potential_pairs.specs.Levels.{Ascend}
use Rattle.potential_pairs.specs.Naming.{count_named, weight}
use Rattle.potential_pairs.specs.Potential.{Row}
use Rattle.potential_pairs.proofs.Counts.{count-renamed, count-same}
use Rattle.potential_pairs.proofs.Rows.{ascend-filter, ascend-tail, none_later, value-filter, value_first, value_later}

abbrev pub Name : Type 0
Name = ℕ × ℕ → Option (ℕ × ℕ)

-- those that are left to be done have their old names, all others the new ones
abbrev pub waiting : List Row → Name → Name → Name
waiting left old new files = cond (is_some (value_of pair_cmp left files)) (old files) (new files)

ascend-drop : (rows : List Row) (i : ℕ) → Ascend rows → Ascend (drop i rows)
ascend-drop rows zero sorted = sorted
ascend-drop [] (suc i) sorted = sorted
ascend-drop (row ∷ rows) (suc i) sorted = ascend-drop rows i (ascend-tail row rows sorted)

value-drop : (rows : List Row) (i : ℕ) (q : ℕ × ℕ) (v : ℕ) → Ascend rows → value_of pair_cmp (drop i rows) q ≡ Some v → value_of pair_cmp rows q ≡ Some v
value-drop rows zero q v sorted has = has
value-drop [] (suc i) q v sorted has = has
value-drop (row ∷ rows) (suc i) q v sorted has =
    let later = value-drop rows i q v (ascend-tail row rows sorted) has in
    value_later row rows q (λ same. let none = none_later row rows sorted in let moved = ap (value_of pair_cmp rows) same in cc) ∙ later

-- the row at a place has its value
pub value_at : (rows : List Row) (i : ℕ) (d : Row) → Ascend rows → i < length rows → value_of pair_cmp rows (get_or rows i d).0 ≡ Some (get_or rows i d).1
value_at rows i d sorted within =
    let this = get_or rows i d in
    value-drop rows i this.0 this.1 sorted (ap (λ list. value_of pair_cmp list this.0) (drop_more rows i d within) ∙ value_first this (drop (i + 1) rows) this.0 refl)

passes_if_some : (passes : Bool) (found : Option ℕ) (v : ℕ) → cond passes found None ≡ Some v → found ≡ Some v
passes_if_some true found v has = has
passes_if_some false found v has = cc

module _ (near : List Row) (old new : Name) (sorted : Ascend near) (test : ℕ × ℕ → Bool) where
  -- the near pairs that pass a test
  abbrev chosen : List Row
  chosen = filter (λ row. test row.0) near

  pub chosen_value : (i : ℕ) (d : Row) → i < length chosen → value_of pair_cmp near (get_or chosen i d).0 ≡ Some (get_or chosen i d).1
  chosen_value i d within =
      let this = get_or chosen i d in
      let here = value_at chosen i d (ascend-filter test near sorted) within in
      passes_if_some (test this.0) (value_of pair_cmp near this.0) this.1 (sym (value-filter test near this.0) ∙ here)

  pub chosen_passes : (i : ℕ) (d : Row) → i < length chosen → test (get_or chosen i d).0 ≡ true
  chosen_passes i d within =
      let this = get_or chosen i d in
      let here = value_at chosen i d (ascend-filter test near sorted) within in
      by (test this.0) (value_of pair_cmp near this.0) this.1 (sym (value-filter test near this.0) ∙ here) where
        by : (passes : Bool) (found : Option ℕ) (v : ℕ) → cond passes found None ≡ Some v → passes ≡ true
        by true found v has = refl
        by false found v has = cc

  -- at first each has its old name, where those that don't pass have the same name
  pub waiting-none : ((files : ℕ × ℕ) (e : ℕ) → value_of pair_cmp near files ≡ Some e → test files ≡ false → new files ≡ old files)
      → (name : ℕ × ℕ) (d : ℕ) → count_named (waiting chosen old new) near name d ≡ count_named old near name d
  waiting-none others name d = count-same name d old (waiting chosen old new) near sorted (λ files e has.
      ap (λ found. cond (is_some found) (old files) (new files)) (value-filter test near files ∙ ap (λ found. cond (test files) found None) has) ∙ by files e (test files) (others files e has)) where
        by : (files : ℕ × ℕ) (e : ℕ) (passes : Bool) → (passes ≡ false → new files ≡ old files) → cond (is_some (cond passes (Some e) None)) (old files) (new files) ≡ old files
        by files e true same = refl
        by files e false same = same refl

  -- the next one gets its new name
  pub waiting-more : (i : ℕ) (d : Row) → i < length chosen → (name : ℕ × ℕ) (e : ℕ)
      → count_named (waiting (drop (i + 1) chosen) old new) near name e
      ≡ count_named (waiting (drop i chosen) old new) near name e + weight (new (get_or chosen i d).0) (get_or chosen i d).1 name e - weight (old (get_or chosen i d).0) (get_or chosen i d).1 name e
  waiting-more i d within name e =
      let this = get_or chosen i d in
      let rest = drop (i + 1) chosen in
      let more : drop i chosen ≡ this ∷ rest = drop_more chosen i d within in
      let left_sorted : Ascend (this ∷ rest) = subst (λ (list : List Row). Ascend list) more (ascend-drop chosen i (ascend-filter test near sorted)) in
      let whole : count_named (waiting (drop i chosen) old new) near name e ≡ count_named (waiting (this ∷ rest) old new) near name e = ap (λ (list : List Row). count_named (waiting list old new) near name e) more in
      let before : waiting (this ∷ rest) old new this.0 ≡ old this.0 = ap (λ found. cond (is_some found) (old this.0) (new this.0)) (value_first this rest this.0 refl) in
      let after : waiting rest old new this.0 ≡ new this.0 = ap (λ found. cond (is_some found) (old this.0) (new this.0)) (none_later this rest left_sorted) in
      let renamed = count-renamed name e (waiting (this ∷ rest) old new) (waiting rest old new) near this.0 this.1 sorted (chosen_value i d within)
      (λ q other. ap (λ found. cond (is_some found) (old q) (new q)) (sym (value_later this rest q other))) in
      let old_weight = ap (λ own. weight own this.1 name e) before in
      let new_weight = ap (λ own. weight own this.1 name e) after in
      omega (arith, whole, renamed, old_weight, new_weight)

  pub waiting-all : (i : ℕ) → length chosen < i + 1 → (name : ℕ × ℕ) (e : ℕ) → count_named (waiting (drop i chosen) old new) near name e ≡ count_named new near name e
  waiting-all i end name e = ap (λ (list : List Row). count_named (waiting list old new) near name e) (drop_all i chosen (omega (arith, end)))

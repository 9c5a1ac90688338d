-- Which pairs the rows of one file give, in either order.
use Rattle.std.proofs.Common.{◌≡◌, ◌∙◌, ◌==◌, ◌||◌, ℕ, Bool, true, false, cond, List, [], ◌∷◌, Option, Some, None, filter, refl, sym, ap, subst, inl, inr}
use Rattle.std.proofs.lemmas.Bool.{cases_eq, eq-eqb, ne_eqb}
use Rattle.spare_tables.specs.EditLaws.{same_rows}
use Rattle.spare_tables.specs.Keys.{value_of}
use Rattle.spare_tables.specs.Order.{pair_cmp, pair_exact}
use Rattle.spare_tables.specs.PairLaws.{pair_order}
use Rattle.potential_pairs.specs.Keeping.{AreNearRows, turned}
use Rattle.potential_pairs.specs.Levels.{Ascend}
use Rattle.potential_pairs.specs.Planning.{has_file, with_changes}
use Rattle.potential_pairs.specs.Potential.{Row}
use Rattle.potential_pairs.proofs.Rows.{AreApart, apart-from_ascend, ascend-filter, changed, same_name, sorted-with_changes, value-filter, value-with_changes, value_first, value_later}

-- ---- the two files in the other order
pub value-turned : (rows : List Row) (f g : ℕ) → value_of pair_cmp (turned rows) (g, f) ≡ value_of pair_cmp rows (f, g)
value-turned [] f g = refl
value-turned (row ∷ rows) f g = elim (same_name (f, g) row.0) [
  | inl same ↦
      let other : (g, f) ≡ (row.0.1, row.0.0) = λ i. ((same i).1, (same i).0) in
      value_first ((row.0.1, row.0.0), row.1) (turned rows) (g, f) other ∙ sym (value_first row rows (f, g) same)
  | inr apart ↦
      value_later ((row.0.1, row.0.0), row.1) (turned rows) (g, f) (λ same. apart (λ i. ((same i).1, (same i).0))) ∙ value-turned rows f g ∙ sym (value_later row rows (f, g) apart)
]

pub apart-turned : (rows : List Row) → AreApart rows → AreApart (turned rows)
apart-turned [] apart = tt
apart-turned (row ∷ rows) apart = (value-turned rows row.0.0 row.0.1 ∙ apart.0, apart-turned rows apart.1)

-- ---- more near pairs in both orders
pub near-noted : (near others pairs : List Row) → Ascend pairs → AreNearRows near others → (f g : ℕ)
    → value_of pair_cmp (with_changes Some (turned pairs) others) (g, f) ≡ value_of pair_cmp (with_changes Some pairs near) (f, g)
near-noted near others pairs sorted rows f g =
    value-with_changes Some (turned pairs) others (g, f) (apart-turned pairs (apart-from_ascend pairs sorted)) rows.others_sorted
    ∙ (λ i. changed Some (value-turned pairs f g i) (rows.turned f g i))
    ∙ sym (value-with_changes Some pairs near (f, g) (apart-from_ascend pairs sorted) rows.sorted)

-- ---- the near pairs of a file, added to those that pass a test
either_file : (test first second : Bool) (near : Option ℕ)
    → changed Some (cond second near None) (changed Some (cond first near None) (cond test near None)) ≡ cond (test || (first || second)) near None
either_file true true true None = refl
either_file true true true (Some v) = refl
either_file true true false None = refl
either_file true true false (Some v) = refl
either_file true false true None = refl
either_file true false true (Some v) = refl
either_file true false false near = refl
either_file false true true None = refl
either_file false true true (Some v) = refl
either_file false true false None = refl
either_file false true false (Some v) = refl
either_file false false true None = refl
either_file false false true (Some v) = refl
either_file false false false near = refl

pub same-test : (n m : ℕ) → n == m ≡ m == n
same-test n m = elim (cases_eq n m) [
  | inl same ↦ eq-eqb n m same ∙ sym (eq-eqb m n (sym same))
  | inr other ↦ ne_eqb n m other ∙ sym (ne_eqb m n (λ same. other (sym same)))
]

pub file-added : (near others pairs : List Row) (file : ℕ) (test : ℕ × ℕ → Bool) → AreNearRows near others → pairs ≡ filter (λ row. test row.0) near
    → with_changes Some (turned (filter (λ row. row.0.0 == file) others)) (with_changes Some (filter (λ row. row.0.0 == file) near) pairs)
    ≡ filter (λ row. test row.0 || has_file file row.0) near
file-added near others pairs file test rows some =
    let lower = filter (λ (row : Row). row.0.0 == file) near in
    let higher = filter (λ (row : Row). row.0.0 == file) others in
    let sorted : Ascend pairs = subst (λ (list : List Row). Ascend list) (sym some) (ascend-filter test near rows.sorted) in
    let lower_apart = apart-from_ascend lower (ascend-filter (λ (q : ℕ × ℕ). q.0 == file) near rows.sorted) in
    let higher_apart = apart-turned higher (apart-from_ascend higher (ascend-filter (λ (q : ℕ × ℕ). q.0 == file) others rows.others_sorted)) in
    let lower_sorted : Ascend (with_changes Some lower pairs) = sorted-with_changes Some lower pairs sorted in
    same_rows pair_order pair_exact (with_changes Some (turned higher) (with_changes Some lower pairs)) (filter (λ (row : Row). test row.0 || has_file file row.0) near)
    (sorted-with_changes Some (turned higher) (with_changes Some lower pairs) lower_sorted) (ascend-filter (λ (q : ℕ × ℕ). test q || has_file file q) near rows.sorted) (λ files.
    let first : value_of pair_cmp lower files ≡ cond (file == files.0) (value_of pair_cmp near files) None =
    value-filter (λ (q : ℕ × ℕ). q.0 == file) near files ∙ ap (λ passes. cond passes (value_of pair_cmp near files) None) (same-test files.0 file) in
    let second : value_of pair_cmp (turned higher) files ≡ cond (file == files.1) (value_of pair_cmp near files) None =
    value-turned higher files.1 files.0 ∙ value-filter (λ (q : ℕ × ℕ). q.0 == file) others (files.1, files.0)
    ∙ (λ i. cond (same-test files.1 file i) (rows.turned files.0 files.1 i) None) in
    let was : value_of pair_cmp pairs files ≡ cond (test files) (value_of pair_cmp near files) None = ap (λ list. value_of pair_cmp list files) some ∙ value-filter test near files in
    value-with_changes Some (turned higher) (with_changes Some lower pairs) files higher_apart lower_sorted
    ∙ ap (changed Some (value_of pair_cmp (turned higher) files)) (value-with_changes Some lower pairs files lower_apart sorted)
    ∙ (λ i. changed Some (second i) (changed Some (first i) (was i)))
    ∙ either_file (test files) (file == files.0) (file == files.1) (value_of pair_cmp near files)
    ∙ sym (value-filter (λ (q : ℕ × ℕ). test q || has_file file q) near files))

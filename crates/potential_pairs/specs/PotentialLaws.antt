-- Potential pairs are of the files that there are, so all of them are those of the rows below the number of files.
use Rattle.std.proofs.Common.{◌≡◌, ◌∙◌, sym, ◌≤◌, ◌<◌, ◌==◌, ◌&&◌, ℕ, Bool, true, false, cond, nat_lt, List, [], ◌∷◌, None, filter, refl, inl, inr, arith}
use Rattle.std.proofs.lemmas.Bool.{and_parts, cases_Bool, eqb-true, false_from_ne_true, ltb-false, or_cases}
use Rattle.std.proofs.lemmas.List.Elements.{All-head, All-tail}
use Rattle.media_types.specs.Least.{least}
use Rattle.relation_groups.specs.Relations.{Relations}
use Rattle.spare_tables.specs.BelowLaws.{below_sorted, below_value, same_values}
use Rattle.spare_tables.specs.Pairs.{value_below}
use Rattle.potential_pairs.specs.Potential.{AreBelow, AreOf, PairsView, Row, distances_between, is_across, is_between, is_live, may_pair, potential_at, potentials}

module _ (n : ℕ) (R : Relations) (crowned : (f : ℕ) → f < n → R.king f < n) (gone : List ℕ) (j k : ℕ) (past : n ≤ k) where
  not_between : (row : Row) → (row.0.0 < row.0.1) × (row.0.1 < n) → is_between R gone j k row ≡ false
  not_between row below = false_from_ne_true (is_between R gone j k row) (λ between.
      let live = and_parts (is_live gone row.0.0) (is_live gone row.0.1 && is_across R j k row.0) between in
      let across = and_parts (is_live gone row.0.1) (is_across R j k row.0) live.1 in
      let first = crowned row.0.0 (omega (arith, below.0, below.1)) in
      let second = crowned row.0.1 below.1 in
      elim (or_cases _ _ across.1) [
        | inl straight ↦ let king = eqb-true (R.king row.0.1) k (and_parts (R.king row.0.0 == j) (R.king row.0.1 == k) straight).1 in omega (arith, king, second, past)
        | inr turned ↦ let king = eqb-true (R.king row.0.0) k (and_parts (R.king row.0.0 == k) (R.king row.0.1 == j) turned).0 in omega (arith, king, first, past)
      ])

  none_between : (near : List Row) → AreBelow n near → filter (is_between R gone j k) near ≡ []
  none_between [] below = refl
  none_between (row ∷ near) below =
      let here = not_between row (All-head (λ (r : Row). (r.0.0 < r.0.1) × (r.0.1 < n)) row near below) in
      rw here (none_between near (All-tail (λ (r : Row). (r.0.0 < r.0.1) × (r.0.1 < n)) row near below))

  none_past : (near : List Row) → AreBelow n near → potential_at R gone near j k ≡ None
  unfolding potential_at
  none_past near below = by (may_pair R j k) where
    nothing : least (distances_between R gone near j k) ≡ None
    nothing = rw (none_between near below) refl

    by : (may : Bool) → cond may (least (distances_between R gone near j k)) None ≡ None
    by true = nothing
    by false = refl

none_turned : (R : Relations) (gone : List ℕ) (near : List Row) (j k : ℕ) → nat_lt j k ≡ false → potential_at R gone near j k ≡ None
unfolding potential_at
none_turned R gone near j k turned = rw turned refl

-- the distance of a potential pair, where it is of files that there are
pub within-below : (n : ℕ) (R : Relations) (gone : List ℕ) (near : List Row) → AreBelow n near → ((f : ℕ) → f < n → R.king f < n) → (j k : ℕ)
    → potential_at R gone near j k ≡ cond (nat_lt k n) (value_below (potential_at R gone near) j k) None
within-below n R gone near below crowned j k = elim (cases_Bool (nat_lt k n)) [
  | inl inside ↦ rw inside (elim (cases_Bool (nat_lt j k)) [
    | inl lower ↦ rw lower refl
    | inr turned ↦ rw turned (none_turned R gone near j k turned)
  ])
  | inr past ↦ rw past (none_past n R crowned gone j k (ltb-false k n past) near below)
]

-- pairs that are of the relations are the potential ones
pub pairs-are_potential : (n : ℕ) (R : Relations) (v : PairsView) → AreOf R v → AreBelow n v.near → ((f : ℕ) → f < n → R.king f < n) → v.pairs ≡ potentials n R v.gone v.near
pairs-are_potential n R v of below crowned =
    let value = potential_at R v.gone v.near in
    same_values v.pairs (potentials n R v.gone v.near) of.sorted (below_sorted n value)
    (λ j k. of.each j k ∙ within-below n R v.gone v.near below crowned j k ∙ sym (below_value n value j k))

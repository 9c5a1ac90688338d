-- The rows of pairs that have one first number.
use Rattle.std.specs.Prelude.{ℕ, ◌≤◌, ◌==◌, List, All, filter}
use Rattle.std.specs.List.Sorted.{IsStrictlySortedBy}
use Rattle.std.specs.Map.{keys_of}
use Rattle.spare_tables.specs.Order.{pair_cmp}

module _ {V : Type 0} where
  -- the rows of this first number
  abbrev pub of_first : ℕ → List ((ℕ × ℕ) × V) → List ((ℕ × ℕ) × V)
  of_first first rows = filter (λ row. row.0.0 == first) rows

  -- the rows ascend, and none has a lesser first number
  pub record AscendFrom (first : ℕ) (rows : List ((ℕ × ℕ) × V)) : Type 0 where
    pub sorted : IsStrictlySortedBy pair_cmp (keys_of rows)
    pub least : All (λ (row : (ℕ × ℕ) × V). first ≤ row.0.0) rows

-- Numbers from 0 in groups, each group with a label.
use Rattle.std.specs.Prelude.{◌≡◌, ◌<◌, ◌≤◌, ◌↔◌, ℕ, Bool, true, ◌==◌, ◌||◌, min, List, length, filter, Option, Some, None, Contains}
use Rattle.std.specs.List.{range_with_len}
use Rattle.sibling_chains.specs.Ends.{at}
use Rattle.sibling_chains.specs.Following.{Pair}

-- the label of each number, and how many more numbers there is room for
pub record Grouping : Type 0 where
  pub labels : List ℕ
  pub spare : ℕ

-- the pairs are those of a label and a number that has it
pub record IsGrouped (labels : List ℕ) (pairs : List Pair) : Type 0 where
  pub members : (l n : ℕ) → Contains pairs (l, n) ↔ ((n < length labels) × (at labels n ≡ l))
  pub few : length labels < 4294967295

-- the label is one of two
abbrev pub is_either : ℕ → ℕ → ℕ → Bool
is_either a b l = l == a || l == b

-- the numbers of two groups, ascending
abbrev pub numbers_of : ℕ → ℕ → List ℕ → List ℕ
numbers_of a b labels = filter (λ n. is_either a b (at labels n)) (range_with_len 0 (length labels))

-- the least of the first n numbers that isn't below this one and passes the test, where there is any
abbrev pub IsNext : ℕ → (ℕ → Bool) → ℕ → Option ℕ → Type 0
IsNext n test from None = (k : ℕ) → k < n → test k ≡ true → k < from
IsNext n test from (Some m) = (m < n) × (from ≤ m) × (test m ≡ true) × ((k : ℕ) → k < n → from ≤ k → test k ≡ true → m ≤ k)

-- the lesser of two numbers, of which each may be missing
abbrev pub lesser_of : Option ℕ → Option ℕ → Option ℕ
lesser_of None other = other
lesser_of (Some m) None = Some m
lesser_of (Some m) (Some n) = Some (min m n)

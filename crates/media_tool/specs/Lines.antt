-- How bytes are cut into lines.
use Rattle.std.specs.Prelude.{◌≡◌, ◌≢◌, ℕ, List, [], ◌∷◌, ◌++◌}
use Rattle.std.specs.List.{AllByRecursion, flat_map}

abbrev pub HasNoFeed : List ℕ → Type 0
HasNoFeed bytes = AllByRecursion (λ byte. byte ≢ 10) bytes

-- a line and the line feed that ends it
abbrev pub with_feed : List ℕ → List ℕ
with_feed line = line ++ 10 ∷ []

-- The bytes are these lines, each with its line feed, and then a rest that no line feed ended.
pub record Cut (bytes : List ℕ) (lines : List (List ℕ)) (rest : List ℕ) : Type 0 where
  pub whole : bytes ≡ flat_map with_feed lines ++ rest
  pub each : AllByRecursion HasNoFeed lines
  pub unfinished : HasNoFeed rest

-- A rest that isn't empty is a line too.
abbrev pub with_rest : List (List ℕ) → List ℕ → List (List ℕ)
with_rest lines [] = lines
with_rest lines (byte ∷ bytes) = lines ++ (byte ∷ bytes) ∷ []

-- The relations of a set of tags alone.
use Rattle.std.specs.Prelude.{◌≡◌, ℕ, Bool, List, map}
use Rattle.std.specs.List.{list_any}
use Rattle.sibling_chains.specs.Clusters.{IsClosed, rows_within}
use Rattle.sibling_chains.specs.Following.{Pair}
use Rattle.sibling_chains.specs.Recorded.{pairs_in}
use Rattle.parent_closure.specs.Ancestors.{Relations, between_ideals, ideal_of}

-- the relations whose tags are in the set
abbrev pub of_set : (ℕ → Bool) → Relations → Relations
of_set S R = record R { siblings = rows_within S R.siblings; parents = rows_within S R.parents }

-- of each pair both tags are in the set, or neither
abbrev pub IsClosedFor : (ℕ → Bool) → Relations → Type 0
IsClosedFor S R = IsClosed S R.siblings × IsClosed S R.parents

-- the standing parent pairs of the service whose child is in the set, between ideal tags
abbrev pub steps_within : (ℕ → Bool) → Relations → List Pair
steps_within S R = map (between_ideals (ideal_of R)) (pairs_in R.parent_order (rows_within S R.parents))

-- two lists have the same, in any order and any number
abbrev pub HaveSame : {X : Type 0} → List X → List X → Type 0
HaveSame {X} xs ys = (test : X → Bool) → list_any test xs ≡ list_any test ys

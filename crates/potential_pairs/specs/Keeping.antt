-- How tables of near pairs and of potential pairs are kept.
use Rattle.std.specs.Prelude.{◌≡◌, ℕ, List, Option, Some, None, All, IsSome, map}
use Rattle.std.specs.Map.{keys_of, values_of}
use Rattle.spare_tables.specs.Keys.{value_of}
use Rattle.spare_tables.specs.Order.{pair_cmp}
use Rattle.potential_pairs.specs.Levels.{Ascend, IsDistance, IsName}
use Rattle.potential_pairs.specs.Potential.{Row}
use Rattle.potential_pairs.specs.Tallies.{TallyRow, least_counted}
use Rattle.potential_pairs.specs.declared.tally.Tally.{Tally}

-- rows with their two numbers in the other order
abbrev pub turned : List Row → List Row
turned rows = map (λ row. ((row.0.1, row.0.0), row.1)) rows

-- The near pairs ascend, with the lower file first, and their distances are such as files are searched within.
-- The other rows are the same pairs with the higher file first, and ascend too.
pub record AreNearRows (near others : List Row) : Type 0 where
  pub sorted : Ascend near
  pub shallow : All IsDistance (values_of near)
  pub others_sorted : Ascend others
  pub turned : (f g : ℕ) → value_of pair_cmp others (g, f) ≡ value_of pair_cmp near (f, g)

-- the least distance of a tally, where there is one
abbrev pub least_of : Option Tally → Option ℕ
least_of None = None
least_of (Some tally) = least_counted tally

-- The tallies and the distances ascend by their names. Each tally counts some near pair, and the distance of
-- its name is the least that it counts.
pub record AreTallyRows (tallies : List TallyRow) (pairs : List Row) : Type 0 where
  pub sorted : Ascend tallies
  pub pairs_sorted : Ascend pairs
  pub some : (name : ℕ × ℕ) (tally : Tally) → value_of pair_cmp tallies name ≡ Some tally → IsSome (least_counted tally)
  pub least : (name : ℕ × ℕ) → value_of pair_cmp pairs name ≡ least_of (value_of pair_cmp tallies name)

-- what a contract sees of kept tallies: the tallies, the least distances, and how many changes there is room for
pub record TallyTable : Type 0 where
  pub tallies : List TallyRow
  pub pairs : List Row
  pub spare : ℕ

-- the near pairs that a plan adds and the tallies that it changes ascend, and are such as may be kept
pub record ArePlanned (near : List Row) (tallies : List TallyRow) : Type 0 where
  pub sorted : Ascend near
  pub shallow : All IsDistance (values_of near)
  pub tallies_sorted : Ascend tallies
  pub named : All IsName (keys_of tallies)

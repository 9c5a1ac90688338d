-- The rows of sibling pairs, with the number of the standing row of each service and bad tag.
use Rattle.std.specs.Prelude.{◌≡◌, ◌≤◌, ℕ, List, length, count_by}
use Rattle.spare_tables.specs.Keys.{value_of}
use Rattle.spare_tables.specs.Order.{pair_cmp}
use Rattle.tag_types.specs.declared.limits.TheConstants.{MAX_RELATIONS}
use Rattle.sibling_chains.specs.declared.relation_row.RelationRow.{RelationRow}
use Rattle.sibling_chains.specs.Following.{Pair}
use Rattle.sibling_chains.specs.Recorded.{standing_at, stands_for}

-- the rows in order of recording, and how many more there is room for
pub record PairTable : Type 0 where
  pub rows : List RelationRow
  pub spare : ℕ

-- at most one row stands for a service and a bad tag, and its number is kept
pub record ArePlaced (rows : List RelationRow) (places : List (Pair × ℕ)) : Type 0 where
  pub placed : (s b : ℕ) → value_of pair_cmp places (s, b) ≡ standing_at s b rows
  pub single : (s b : ℕ) → count_by (stands_for s b) rows ≤ 1
  pub few : length rows ≤ MAX_RELATIONS

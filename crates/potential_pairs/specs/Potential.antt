-- Near pairs of files, and the potential pairs that they make of groups of duplicates.
--
-- Two files are near where their distance is at most how far both were searched. Two groups are a potential
-- pair where a live file of the one is near to a live file of the other, they are of different classes, and
-- the classes aren't a not-related pair. The pair is named by the two kings, the lower first, with the least
-- such distance.
use Rattle.std.specs.Prelude.{◌≡◌, ◌<◌, All, ℕ, Bool, ◌==◌, ◌&&◌, ◌||◌, not, nat_lt, if◌then◌else◌, List, map, filter, count_by, Option, None}
use Rattle.std.specs.List.{list_any}
use Rattle.std.specs.List.Sorted.{IsStrictlySortedBy}
use Rattle.std.specs.Map.{keys_of}
use Rattle.media_types.specs.Least.{least}
use Rattle.spare_tables.specs.Keys.{value_of}
use Rattle.spare_tables.specs.Order.{pair_cmp}
use Rattle.spare_tables.specs.Pairs.{pairs_below}
use Rattle.relation_groups.specs.Relations.{Relations, is_king}
use Rattle.potential_pairs.specs.Tallies.{IsTallyOf, TallyRow}

-- numbers of two files and their distance; a list of such ascends by the numbers
abbrev pub Row : Type 0
Row = (ℕ × ℕ) × ℕ

-- what a contract sees: the near pairs, each by the two files with the lower first; the deleted files; the
-- potential pairs by their kings; and for each of these how many near pairs make it at each distance
pub record PairsView : Type 0 where
  pub near : List Row
  pub gone : List ℕ
  pub pairs : List Row
  pub tallies : List TallyRow

-- the file isn't deleted
abbrev pub is_live : List ℕ → ℕ → Bool
is_live gone f = not (list_any (λ g. g == f) gone)

-- the one file is of the group of king j, the other of that of king k
abbrev pub is_across : Relations → ℕ → ℕ → ℕ × ℕ → Bool
is_across R j k files =
    (R.king files.0 == j && R.king files.1 == k) || (R.king files.0 == k && R.king files.1 == j)

-- the near pair is of two live files, one of each group
abbrev pub is_between : Relations → List ℕ → ℕ → ℕ → Row → Bool
is_between R gone j k near =
    is_live gone near.0.0 && (is_live gone near.0.1 && is_across R j k near.0)

-- the distances of the near pairs between two groups
abbrev pub distances_between : Relations → List ℕ → List Row → ℕ → ℕ → List ℕ
distances_between R gone near j k = map (λ row. row.1) (filter (is_between R gone j k) near)

-- the least distance of the near pairs between two groups
abbrev pub least_between : Relations → List ℕ → List Row → ℕ → ℕ → Option ℕ
least_between R gone near j k = least (distances_between R gone near j k)

-- j and k are kings, the lower first, of different classes that aren't a not-related pair
abbrev pub may_pair : Relations → ℕ → ℕ → Bool
may_pair R j k =
    nat_lt j k && (is_king R j && (is_king R k && (not (R.alike j k) && not (R.unrelated j k))))

-- the distance of the potential pair of these names, where it is one
unfoldable pub potential_at : Relations → List ℕ → List Row → ℕ → ℕ → Option ℕ
potential_at R gone near j k = if may_pair R j k then least_between R gone near j k else None

-- how many near pairs make the potential pair of these names at a distance
unfoldable pub count_between : Relations → List ℕ → List Row → ℕ → ℕ → ℕ → ℕ
count_between R gone near j k d =
    if may_pair R j k then count_by (λ e. e == d) (distances_between R gone near j k) else 0

-- the potential pairs of the first n files with their distances, in the order of their names
abbrev pub potentials : ℕ → Relations → List ℕ → List Row → List Row
potentials n R gone near = pairs_below n (potential_at R gone near)

-- The rows ascend by their names, and the potential pairs are those that the near pairs make of these groups.
-- The tallies count these near pairs by distance, and a name without any has no tally.
pub record AreOf (R : Relations) (v : PairsView) : Type 0 where
  pub sorted : IsStrictlySortedBy pair_cmp (keys_of v.pairs)
  pub each : (j k : ℕ) → value_of pair_cmp v.pairs (j, k) ≡ potential_at R v.gone v.near j k
  pub tallied : (j k : ℕ) → IsTallyOf (count_between R v.gone v.near j k) (value_of pair_cmp v.tallies (j, k))

-- each near pair is of two of the first n files, the lower first
abbrev pub AreBelow : ℕ → List Row → Type 0
AreBelow n near = All (λ row. (row.0.0 < row.0.1) × (row.0.1 < n)) near

-- what a contract sees of kept pairs: the pairs, and how many changes of them there is room for
pub record KeptPairs : Type 0 where
  pub rows : PairsView
  pub spare : ℕ

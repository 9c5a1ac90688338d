-- The rows and ties of tags, with the clusters into which the tags fall.
use Rattle.std.specs.Prelude.{◌≡◌, ◌<◌, ◌≤◌, ◌==◌, ℕ, Bool, min, List, map, ◌++◌, length, filter, All, Option, Some, None, slice_index_or}
use Rattle.std.specs.List.{list_any, range_with_len}
use Rattle.tag_types.specs.declared.limits.TheConstants.{MAX_TAGS}
use Rattle.sibling_chains.specs.declared.cluster.Cluster.{Cluster}
use Rattle.sibling_chains.specs.declared.relation_row.RelationRow.{RelationRow}
use Rattle.sibling_chains.specs.Clusters.{labels}
use Rattle.sibling_chains.specs.Ends.{at}
use Rattle.sibling_chains.specs.Following.{Pair}
use Rattle.sibling_chains.specs.Grouping.{is_either}
use Rattle.sibling_chains.specs.Recorded.{no_row, pair_of, removed_at}

-- the rows in order of recording, the other pairs that tie tags together, how many tags there are, and how
-- many more tags, rows and ties there is room for
pub record Clustered : Type 0 where
  pub rows : List RelationRow
  pub ties : List Pair
  pub tags : ℕ
  pub tag_room : ℕ
  pub row_room : ℕ

-- each pair that was ever recorded
abbrev pub all_pairs : List RelationRow → List Pair → List Pair
all_pairs rows ties = map pair_of rows ++ ties

-- the label of a tag's cluster
abbrev pub label_of : List RelationRow → List Pair → ℕ → ℕ
label_of rows ties t = labels (all_pairs rows ties) t

-- a tag is of the cluster of either of two
abbrev pub is_of_two : List RelationRow → List Pair → ℕ → ℕ → ℕ → Bool
is_of_two rows ties a b t = is_either (label_of rows ties a) (label_of rows ties b) (label_of rows ties t)

-- these are the tags of two clusters, the numbers of their rows, and the lesser of their labels
pub record IsClusterOf (v : Clustered) (a b : ℕ) (it : Cluster) : Type 0 where
  pub label : it.label ≡ min (label_of v.rows v.ties a) (label_of v.rows v.ties b)
  pub tags : it.tags.items ≡ filter (is_of_two v.rows v.ties a b) (range_with_len 0 v.tags)
  pub rows : it.rows.items
      ≡ filter (λ n. is_of_two v.rows v.ties a b (slice_index_or v.rows n no_row).first.0) (range_with_len 0 (length v.rows))
  pub whole : (t : ℕ) → list_any (λ x. x == t) it.tags.items ≡ is_of_two v.rows v.ties a b t

-- the rows, once the one of a number is removed, where there is a number
abbrev pub rows_but : Option ℕ → List RelationRow → List RelationRow
rows_but None rows = rows
rows_but (Some n) rows = removed_at n rows

-- the kept labels are those of the clusters, and each row is kept under the label of its tags
pub record AreClustered (rows : List RelationRow) (ties : List Pair) (of_tags of_rows : List ℕ) : Type 0 where
  pub labels : (t : ℕ) → at of_tags t ≡ label_of rows ties t
  pub row_labels : of_rows ≡ map (λ row. at of_tags row.first.0) rows
  pub known : All (λ row. (row.first.0 < length of_tags) × (row.second.0 < length of_tags)) rows
  pub few : length of_tags ≤ MAX_TAGS

-- How much there is in the clusters of two tags.
use Rattle.std.specs.Prelude.{ℕ, ◌+◌, ◌*◌, Bool, List, length, map, filter}
use Rattle.std.specs.List.{range_with_len}
use Rattle.sibling_chains.specs.Clustered.{is_of_two}
use Rattle.sibling_chains.specs.Clusters.{rows_within}
use Rattle.sibling_chains.specs.Recorded.{pair_of}
use Rattle.sibling_chains.specs.declared.relation_row.RelationRow.{RelationRow}

-- a tag is of the cluster of either of two, over all pairs ever recorded
abbrev pub is_beside : List RelationRow → List RelationRow → ℕ → ℕ → ℕ → Bool
is_beside siblings parents a b = is_of_two siblings (map pair_of parents) a b

-- how many of n tags the two clusters have together
abbrev pub cluster_tags : List RelationRow → List RelationRow → ℕ → ℕ → ℕ → ℕ
cluster_tags siblings parents n a b = length (filter (is_beside siblings parents a b) (range_with_len 0 n))

-- how many rows, removed ones among them
abbrev pub cluster_rows : List RelationRow → List RelationRow → ℕ → ℕ → ℕ
cluster_rows siblings parents a b = length (rows_within (is_beside siblings parents a b) siblings) + length (rows_within (is_beside siblings parents a b) parents)

abbrev pub cluster_work : List RelationRow → List RelationRow → ℕ → ℕ → ℕ → ℕ
cluster_work siblings parents n a b = (1 + cluster_rows siblings parents a b) * (1 + cluster_tags siblings parents n a b)

-- What a search finds, and what it reads.
use Rattle.std.specs.Prelude.{ℕ, zero, suc, ◌+◌, nat_le, nat_lt, Bool, false, if◌then◌else◌, List, map, filter, length, Option, None}
use Rattle.std.specs.List.{range_with_len}
use Rattle.std.specs.Option.{option_map_or}
use Rattle.media_types.specs.Distance.{distance_of}
use Rattle.media_types.specs.declared.hash.Hash64.{Hash64}
use Rattle.media_types.specs.declared.numbers.HashNo.{HashNo}
use Rattle.vp_tree.specs.declared.node.NodeView.{NodeView}
use Rattle.vp_tree.specs.Nodes.{node_at, at_part}

-- a number with the distance of its word from a query
abbrev pub hit : List NodeView → Hash64 → ℕ → HashNo × ℕ
hit ns query k = (record { 0 = k }, distance_of query (node_at ns k).word)

-- all words within a distance, ascending by number
abbrev pub filter_of : List NodeView → Hash64 → ℕ → List (HashNo × ℕ)
filter_of ns query within =
    filter (λ h. nat_le h.1 within) (map (hit ns query) (range_with_len 0 (length ns)))

-- a word within the radius of a node may lie within the distance
abbrev pub opens_inner : NodeView → Hash64 → ℕ → Bool
opens_inner node query within =
    option_map_or (λ r. nat_le (distance_of query node.word) (r + within)) node.radius false

-- a word beyond the radius of a node may lie within the distance
abbrev pub opens_outer : NodeView → Hash64 → ℕ → Bool
opens_outer node query within =
    option_map_or (λ r. nat_lt r (distance_of query node.word + within)) node.radius false

-- the parts of a node that its test doesn't rule out
abbrev pub open_inner : NodeView → Hash64 → ℕ → Option HashNo
open_inner node query within = if opens_inner node query within then node.inner else None

abbrev pub open_outer : NodeView → Hash64 → ℕ → Option HashNo
open_outer node query within = if opens_outer node query within then node.outer else None

-- the number of nodes of the branch at a node, of at most so many levels, of which no ancestor's test
-- rules out the part that they lie in
abbrev pub reads_in : ℕ → List NodeView → Hash64 → ℕ → ℕ → ℕ
reads_in zero ns query within k = 0
reads_in (suc levels) ns query within k =
    1 + (at_part (open_inner (node_at ns k) query within) (reads_in levels ns query within)
    + at_part (open_outer (node_at ns k) query within) (reads_in levels ns query within))

-- the same of the whole tree
abbrev pub reads : List NodeView → Hash64 → ℕ → ℕ
reads ns query within = reads_in (length ns) ns query within 0

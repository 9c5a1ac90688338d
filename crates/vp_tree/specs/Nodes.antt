-- The nodes of a metric tree, in a list by number. Each is a word, and a point of the tree.
use Rattle.std.specs.Prelude.{ℕ, zero, suc, ◌+◌, ◌==◌, nat_lt, Bool, if◌then◌else◌, List, length, map, Option, None, slice_index_or}
use Rattle.std.specs.Option.{option_map_or}
use Rattle.media_types.specs.declared.hash.Hash64.{Hash64}
use Rattle.media_types.specs.declared.numbers.HashNo.{HashNo}
use Rattle.vp_tree.specs.declared.node.NodeView.{NodeView}

-- a node without children
abbrev pub leaf : Hash64 → NodeView
leaf w = record { word = w; radius = None; inner = None; outer = None; below = 0; built = 0 }

abbrev pub node_at : List NodeView → ℕ → NodeView
node_at ns k = slice_index_or ns k (leaf (record { 0 = 0 }))

-- the words of the nodes, by number
abbrev pub words_in : List NodeView → List Hash64
words_in ns = map (λ node. node.word) ns

-- what a number is at the first node of a part; 0 where the part is empty
abbrev pub at_part : Option HashNo → (ℕ → ℕ) → ℕ
at_part part count = option_map_or (λ c. count c.0) part 0

-- the sum of a number over the nodes of the branch at a node, of at most so many levels
abbrev pub total_in : ℕ → List NodeView → (ℕ → ℕ) → ℕ → ℕ
total_in zero ns g k = 0
total_in (suc levels) ns g k =
    g k + (at_part (node_at ns k).inner (total_in levels ns g) + at_part (node_at ns k).outer (total_in levels ns g))

-- the same of a branch that is deep as it may be: no branch has more levels than there are nodes
abbrev pub total : List NodeView → (ℕ → ℕ) → ℕ → ℕ
total ns = total_in (length ns) ns

-- 1 at the node j, and 0 at all others
abbrev pub one_at : ℕ → ℕ → ℕ
one_at j k = if k == j then 1 else 0

-- how often the branch at node k has the node j
abbrev pub times : List NodeView → ℕ → ℕ → ℕ
times ns k j = total ns (one_at j) k

-- the branch at node k has the node j
abbrev pub has_node : List NodeView → ℕ → ℕ → Bool
has_node ns k j = nat_lt 0 (times ns k j)

-- how many nodes the branch at node k has
abbrev pub size : List NodeView → ℕ → ℕ
size ns k = total ns (λ _. 1) k

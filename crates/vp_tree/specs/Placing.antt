-- What an insertion does.
use Rattle.std.specs.Prelude.{◌≡◌, ◌≢◌, ◌<◌, ◌≤◌, All, ◌+◌, ◌==◌, ℕ, zero, suc, nat_le, Bool, if◌then◌else◌, List, [], ◌∷◌, length, Option, Some, None, unwrap_or}
use Rattle.std.specs.Option.{option_map_or}
use Rattle.std.specs.List.{list_any}
use Rattle.spare_tables.specs.Table.{Table}
use Rattle.media_types.specs.Distance.{distance_of}
use Rattle.media_types.specs.declared.hash.Hash64.{Hash64}
use Rattle.media_types.specs.declared.limits.TheConstants.{MAX_WORDS}
use Rattle.media_types.specs.declared.numbers.HashNo.{HashNo}
use Rattle.vp_tree.specs.declared.node.NodeView.{NodeView}
use Rattle.vp_tree.specs.Nodes.{leaf, node_at}

-- the word lies within this radius of the node
abbrev pub is_within : NodeView → ℕ → Hash64 → Bool
is_within node r word = nat_le (distance_of word node.word) r

-- the first node of the part of a node to which a word leads
abbrev pub next_of : NodeView → Hash64 → Option HashNo
next_of node word = option_map_or (λ r. if is_within node r word then node.inner else node.outer) node.radius None

-- the nodes to which a word leads from a node, at most so many
abbrev pub way_in : ℕ → List NodeView → Hash64 → ℕ → List ℕ
way_in zero ns word k = []
way_in (suc levels) ns word k =
    k ∷ option_map_or (λ c. way_in levels ns word c.0) (next_of (node_at ns k) word) []

-- the nodes to which a word leads from the root
abbrev pub way : List NodeView → Hash64 → List ℕ
way ns word = way_in (length ns) ns word 0

abbrev pub is_on : List ℕ → ℕ → Bool
is_on ks k = list_any (λ i. i == k) ks

-- the node with a radius, once the new point is below it
abbrev pub grown_by : HashNo → Hash64 → NodeView → ℕ → NodeView
grown_by number word node r =
    if is_within node r word then record node { inner = Some (unwrap_or node.inner number); below = node.below + 1 }
    else record node { outer = Some (unwrap_or node.outer number); below = node.below + 1 }

-- The node once the new point is below it. Where the part to which its word leads is empty, the point
-- becomes that part; at a node without a radius its distance becomes the radius, and it the inner part.
abbrev pub grown : HashNo → Hash64 → NodeView → NodeView
grown number word node =
    option_map_or (grown_by number word node) node.radius
    (record node { radius = Some (distance_of word node.word); inner = Some number; below = node.below + 1 })

-- there is room for one more node, and the word isn't there
pub record CanTake (tree : Table NodeView) (word : Hash64) : Type 0 where
  pub room : 1 ≤ tree.spare
  pub few : length tree.rows < MAX_WORDS
  pub other : All (λ node. node.word ≢ word) tree.rows

-- a word is placed: each node on its way has one more below it, and the new point comes last
pub record IsPlaced (old new : List NodeView) (word : Hash64) : Type 0 where
  pub len : length new ≡ length old + 1
  pub each : (k : ℕ) → k < length old
      → node_at new k ≡ (if is_on (way old word) k then grown (record { 0 = length old }) word (node_at old k) else node_at old k)
  pub last : node_at new (length old) ≡ leaf word

-- What makes a list of nodes a metric tree.
use Rattle.std.specs.Prelude.{◌≡◌, ◌<◌, ◌≤◌, ◌+◌, ℕ, List, length, Option, Some, None}
use Rattle.media_types.specs.Distance.{distance_of}
use Rattle.media_types.specs.declared.limits.TheConstants.{MAX_WORDS}
use Rattle.media_types.specs.declared.numbers.HashNo.{HashNo}
use Rattle.vp_tree.specs.declared.node.NodeView.{NodeView}
use Rattle.vp_tree.specs.Nodes.{node_at, times, size}

-- the two parts of a node
pub data Side : Type 0 where
  inward : Side
  outward : Side

abbrev pub part : Side → NodeView → Option HashNo
part inward node = node.inner
part outward node = node.outer

-- a child comes after its node
abbrev pub ComeLater : List NodeView → Type 0
ComeLater ns = (k : ℕ) (side : Side) (c : HashNo) → k < length ns → part side (node_at ns k) ≡ Some c
    → (k < c.0) × (c.0 < length ns)

-- A child comes after its node, and hangs in no other place. The root's branch has all nodes, each once.
pub record IsLinked (ns : List NodeView) : Type 0 where
  pub later : ComeLater ns
  pub single : (i k : ℕ) (side other : Side) (c : HashNo) → i < length ns → k < length ns
      → part side (node_at ns i) ≡ Some c → part other (node_at ns k) ≡ Some c → (i ≡ k) × (side ≡ other)
  pub once : (j : ℕ) → j < length ns → times ns 0 j ≡ 1
  pub all : 0 < length ns → size ns 0 ≡ length ns

-- Each word of an inner part lies within the node's radius, each word of an outer part beyond it.
-- A node without a radius has no children.
pub record IsWellCut (ns : List NodeView) : Type 0 where
  pub near : (k j r : ℕ) (c : HashNo) → k < length ns → j < length ns
      → (node_at ns k).radius ≡ Some r → (node_at ns k).inner ≡ Some c → 1 ≤ times ns c.0 j
      → distance_of (node_at ns j).word (node_at ns k).word ≤ r
  pub far : (k j r : ℕ) (c : HashNo) → k < length ns → j < length ns
      → (node_at ns k).radius ≡ Some r → (node_at ns k).outer ≡ Some c → 1 ≤ times ns c.0 j
      → r < distance_of (node_at ns j).word (node_at ns k).word
  pub bare : (k : ℕ) (side : Side) → k < length ns → (node_at ns k).radius ≡ None → part side (node_at ns k) ≡ None

-- there are no more nodes than a library has words, the words are distinct, and each node knows how many are under it
pub record IsTree (ns : List NodeView) : Type 0 where
  pub few : length ns ≤ MAX_WORDS
  pub linked : IsLinked ns
  pub cut : IsWellCut ns
  pub words : (i k : ℕ) → i < length ns → k < length ns → (node_at ns i).word ≡ (node_at ns k).word → i ≡ k
  pub below : (k : ℕ) → k < length ns → (node_at ns k).below + 1 ≡ size ns k

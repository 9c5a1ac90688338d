-- Which branches are to be built anew, and what becomes of a tree and its marks.
use Rattle.std.specs.Prelude.{◌≡◌, ◌+◌, ◌*◌, ◌&&◌, ℕ, max, not, nat_le, nat_lt, Bool, List, [], ◌∷◌, filter, find, Option, Some, None, option_map, slice_get}
use Rattle.std.specs.BTreeSet.{insert_key}
use Rattle.std.specs.Ordering.{nat_cmp}
use Rattle.media_types.specs.declared.hash.Hash64.{Hash64}
use Rattle.media_types.specs.declared.numbers.HashNo.{HashNo}
use Rattle.vp_tree.specs.declared.node.NodeView.{NodeView}
use Rattle.vp_tree.specs.Building.{IsRebuilt}
use Rattle.vp_tree.specs.Nodes.{node_at, at_part, has_node}
use Rattle.vp_tree.specs.Placing.{IsPlaced, way}

-- how many points a part has: its first, and those below it
abbrev pub part_size : List NodeView → Option HashNo → ℕ
part_size ns part = at_part part (λ k. (node_at ns k).below + 1)

abbrev pub larger_part : List NodeView → NodeView → ℕ
larger_part ns node = max (part_size ns node.inner) (part_size ns node.outer)

-- There are 16 to 16,384 points below the node, more than three quarters of them in one part, and they are a
-- quarter more than when it was built or placed.
abbrev pub is_lopsided : List NodeView → NodeView → Bool
is_lopsided ns node =
    (nat_le 16 node.below && nat_le node.below 16384)
    && (nat_lt (3 * node.below) (4 * larger_part ns node) && nat_le (5 * node.built) (4 * node.below))

-- the node that the placing of a word marks, in the tree that has it: the highest lopsided one on its way
abbrev pub mark_of : List NodeView → Hash64 → Option HashNo
mark_of ns word = option_map (λ k. record { 0 = k }) (find (λ k. is_lopsided ns (node_at ns k)) (way ns word))

-- the numbers of marked nodes, ascending, with one more where there is one
abbrev pub with_mark : Option HashNo → List ℕ → List ℕ
with_mark None marks = marks
with_mark (Some node) marks = insert_key nat_cmp marks node.0

-- the marks of the nodes outside of a branch
abbrev pub marks_outside : List NodeView → ℕ → List ℕ → List ℕ
marks_outside ns top marks = filter (λ m. not (has_node ns top m)) marks

-- the nodes of a tree, and the numbers of those that are marked, ascending
pub record MarkedTree : Type 0 where
  pub nodes : List NodeView
  pub marks : List ℕ

-- the word is placed, and marks a node where it leaves one lopsided
pub record IsGrown (old new : MarkedTree) (word : Hash64) : Type 0 where
  pub placed : IsPlaced old.nodes new.nodes word
  pub marked : new.marks ≡ with_mark (mark_of new.nodes word) old.marks

-- words are placed, one after the other
abbrev pub ArePlaced : MarkedTree → List Hash64 → MarkedTree → Type 0
ArePlaced old [] new = new ≡ old
ArePlaced old (word ∷ words) new = (next : MarkedTree) × IsGrown old next word × ArePlaced next words new

-- the branch at a marked node is built anew and its nodes lose their marks; where none is marked all stays
abbrev pub IsRebuiltAt : Option ℕ → MarkedTree → MarkedTree → Type 0
IsRebuiltAt None old new = new ≡ old
IsRebuiltAt (Some top) old new = IsRebuilt old.nodes new.nodes top × (new.marks ≡ marks_outside old.nodes top old.marks)

-- so is the branch at the lowest marked node
abbrev pub IsRebalanced : MarkedTree → MarkedTree → Type 0
IsRebalanced old new = IsRebuiltAt (slice_get old.marks 0) old new

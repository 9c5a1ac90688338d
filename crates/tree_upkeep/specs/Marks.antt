-- The marks of the nodes whose branches are to be built anew.
use Rattle.std.specs.Prelude.{◌≡◌, ◌<◌, ℕ, All, List, length, Option, Some, None, slice_get}
use Rattle.std.specs.Option.{option_map_or}
use Rattle.vp_tree.specs.declared.node.NodeView.{NodeView}
use Rattle.vp_tree.specs.declared.plan.BuildPlan.{BuildPlan}
use Rattle.vp_tree.specs.Building.{IsPlanFor}
use Rattle.vp_tree.specs.Nodes.{size}

-- each mark is the number of a node
abbrev pub AreNodes : List NodeView → List ℕ → Type 0
AreNodes ns marks = All (λ m. m < length ns) marks

-- the plan builds the branch at the lowest marked node of this tree; where none is marked, nothing is planned
abbrev pub IsRebuildOf : List NodeView → List ℕ → Option BuildPlan → Type 0
IsRebuildOf ns marks None = slice_get marks 0 ≡ None
IsRebuildOf ns marks (Some plan) = IsPlanFor ns plan × (slice_get marks 0 ≡ Some plan.top.0)

-- how many nodes the branch at the lowest marked node has
abbrev pub marked_size : List NodeView → List ℕ → ℕ
marked_size ns marks = option_map_or (size ns) (slice_get marks 0) 0

-- Marks stay those of nodes of the tree.
use Rattle.std.proofs.Common.{◌<◌, ◌≤◌, ℕ, not, List, length, Option, Some, None, sym, subst, arith}
use Rattle.std.specs.BTreeSet.{insert_key}
use Rattle.std.specs.Ordering.{nat_cmp}
use Rattle.std.proofs.lemmas.List.Elements.{All-filter, All-weaker}
use Rattle.std.proofs.lemmas.Map.Views.{All-insert_key}
use Rattle.vp_tree.specs.declared.node.NodeView.{NodeView}
use Rattle.vp_tree.specs.Marking.{MarkedTree, IsRebuiltAt}
use Rattle.vp_tree.specs.Nodes.{has_node}
use Rattle.tree_upkeep.specs.Marks.{AreNodes}

-- with one more mark in a tree that has grown
pub one_more_mark : (old new : List NodeView) (marks : List ℕ) (node : ℕ) → AreNodes old marks → length old ≤ length new → node < length new →
    AreNodes new (insert_key nat_cmp marks node)
one_more_mark old new marks node nodes more inside =
    All-insert_key nat_cmp node (λ m. m < length new) marks (All-weaker (λ m. m < length old) (λ m. m < length new) (λ m less. omega (arith, less, more)) marks nodes) inside

-- once a branch was built anew
pub marks_rebuilt : (top : Option ℕ) (old new : MarkedTree) → AreNodes old.nodes old.marks → IsRebuiltAt top old new → AreNodes new.nodes new.marks
marks_rebuilt None old new nodes same = subst (λ (tree : MarkedTree). AreNodes tree.nodes tree.marks) (sym same) nodes
marks_rebuilt (Some top) old new nodes rebuilt =
    rw (rebuilt.1, rebuilt.0.len) (All-filter (λ m. not (has_node old.nodes top m)) (λ m. m < length old.nodes) old.marks nodes)

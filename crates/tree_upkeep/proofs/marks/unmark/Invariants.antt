use Rattle.std.proofs.Common.{◌≡◌, ◌≤◌, not, filter, take}
use Rattle.std.specs.List.Sorted.{IsStrictlySortedBy}
use Rattle.std.specs.Ordering.{nat_cmp}
use Rattle.vp_tree.specs.Building.{is_built}
use Rattle.tree_upkeep.proofs.marks.unmark.Given as goal

abbrev pub invariant-loop-number : goal.invariant-loop-number
invariant-loop-number l = record {
  rows : l.marks.rows ≡ filter (λ m. not (is_built (take l.number-index l.nodes) m)) l.fn.marks.rows;
  sorted : IsStrictlySortedBy nat_cmp l.marks.rows;
  spare : l.fn.marks.spare ≤ l.marks.spare;
}

use Rattle.std.proofs.Common.{◌≡◌, ◌+◌, sum_by}
use Rattle.vp_tree.specs.Nodes.{size}
use Rattle.vp_tree.proofs.Collecting.{IsCollecting}
use Rattle.vp_tree.proofs.branch.collect_points.Given as goal

abbrev pub invariant-loop-at : goal.invariant-loop-at
invariant-loop-at g l = record {
  collecting : IsCollecting l.fn.table.rows l.fn.top.0 l.points.items l.stack.items;
  counted : l.steps + sum_by (λ s. size l.fn.table.rows s.0) l.stack.items ≡ l.fn.steps + size l.fn.table.rows l.fn.top.0;
}

abbrev pub decreases-loop-at : goal.decreases-loop-at
decreases-loop-at g l = sum_by (λ s. size l.fn.table.rows s.0) l.stack.items

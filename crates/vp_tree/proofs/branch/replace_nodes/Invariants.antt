use Rattle.std.proofs.Common.{◌≡◌}
use Rattle.vp_tree.proofs.Replaced.{IsReplacing}
use Rattle.vp_tree.proofs.branch.replace_nodes.Given as goal

abbrev pub invariant-loop-number : goal.invariant-loop-number
invariant-loop-number l = record {
  replacing : IsReplacing l.fn.table.rows l.table.rows l.number-items l.number-index;
  spare : l.table.spare ≡ l.fn.table.spare;
}

use Rattle.std.proofs.Common.{◌≡◌, ◌+◌, ◌≤◌, length, take}
use Rattle.tree_upkeep.proofs.upkeep.put_in_order.Given as goal

abbrev pub invariant-loop-file : goal.invariant-loop-file
invariant-loop-file l = record {
  rows : l.set.rows ≡ take l.file-index l.files;
  room : length l.files ≤ l.set.spare + l.file-index;
}

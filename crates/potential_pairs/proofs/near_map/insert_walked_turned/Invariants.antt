use Rattle.std.proofs.Common.{◌≡◌, ◌+◌, Some, length}
use Rattle.potential_pairs.specs.Keeping.{turned}
use Rattle.potential_pairs.specs.Planning.{with_changes}
use Rattle.potential_pairs.proofs.near_map.insert_walked_turned.Given as goal

abbrev pub invariant-loop-f : goal.invariant-loop-f
invariant-loop-f g l = record {
  rows : with_changes Some (turned l.walk) l.map.rows ≡ with_changes Some (turned l.fn.walk) l.fn.map.rows;
  reads : l.steps + length l.walk ≡ l.fn.steps + length l.fn.walk;
}

abbrev pub decreases-loop-f : goal.decreases-loop-f
decreases-loop-f g l = length l.walk

use Rattle.std.proofs.Common.{◌≡◌, ◌+◌, Some, length}
use Rattle.potential_pairs.specs.Planning.{with_changes}
use Rattle.potential_pairs.proofs.near_map.insert_walked.Given as goal

abbrev pub invariant-loop-files : goal.invariant-loop-files
invariant-loop-files g l = record {
  rows : with_changes Some l.walk l.map.rows ≡ with_changes Some l.fn.walk l.fn.map.rows;
  reads : l.steps + length l.walk ≡ l.fn.steps + length l.fn.walk;
}

abbrev pub decreases-loop-files : goal.decreases-loop-files
decreases-loop-files g l = length l.walk

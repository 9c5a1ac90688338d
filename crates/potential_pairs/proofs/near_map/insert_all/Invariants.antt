use Rattle.std.proofs.Common.{◌≡◌, ◌≤◌, ◌+◌, Some, length, take}
use Rattle.potential_pairs.specs.Planning.{with_changes}
use Rattle.potential_pairs.proofs.near_map.insert_all.Given as goal

abbrev pub invariant-loop-files : goal.invariant-loop-files
invariant-loop-files l = record {
  rows : l.map.rows ≡ with_changes Some (take l.files-index l.pairs) l.initial.map.rows;
  room : length l.pairs ≤ l.map.spare + l.files-index;
}

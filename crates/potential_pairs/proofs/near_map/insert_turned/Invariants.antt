use Rattle.std.proofs.Common.{◌≡◌, ◌≤◌, ◌+◌, Some, length, take}
use Rattle.potential_pairs.specs.Keeping.{turned}
use Rattle.potential_pairs.specs.Planning.{with_changes}
use Rattle.potential_pairs.proofs.near_map.insert_turned.Given as goal

abbrev pub invariant-loop-f : goal.invariant-loop-f
invariant-loop-f l = record {
  rows : l.map.rows ≡ with_changes Some (turned (take l.f-index l.pairs)) l.initial.map.rows;
  room : length l.pairs ≤ l.map.spare + l.f-index;
}

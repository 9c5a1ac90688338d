use Rattle.std.proofs.Common.{◌≡◌, ◌≤◌, ◌+◌, ◌*◌, take}
use Rattle.potential_pairs.specs.Planning.{touched}
use Rattle.potential_pairs.proofs.ReadRows.{counts}
use Rattle.potential_pairs.proofs.pairs.Pairs.near_of_moved.Given as goal

abbrev pub invariant-loop-moved : goal.invariant-loop-moved
invariant-loop-moved g l = record {
  rows : l.pairs.rows ≡ touched (take l.moved-index l.moves) l.self.rows.near;
  reads : l.steps ≤ l.initial.steps + (4 * l.moved-index + 2 * counts l.self.rows.near (take l.moved-index l.moves));
}

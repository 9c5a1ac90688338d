use Rattle.std.proofs.Common.{◌≡◌, ◌≤◌, ◌+◌, length, take}
use Rattle.display_cache.specs.Drafting.{with_values}
use Rattle.display_cache.proofs.writing.write_all.Given as goal

abbrev pub invariant-loop-key : goal.invariant-loop-key
invariant-loop-key g l = record {
  rows : l.map.rows ≡ with_values g.K.Ord.cmp (take l.key-index l.changes) l.initial.map.rows;
  room : length l.changes ≤ l.map.spare + l.key-index;
}

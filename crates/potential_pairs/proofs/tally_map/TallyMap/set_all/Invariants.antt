use Rattle.std.proofs.Common.{◌≡◌, ◌≤◌, ◌+◌, length, take}
use Rattle.potential_pairs.specs.Planning.{with_changes}
use Rattle.potential_pairs.specs.Tallies.{if_any, least_counted}
use Rattle.potential_pairs.proofs.tally_map.TallyMap.set_all.Given as goal

abbrev pub invariant-loop-name : goal.invariant-loop-name
invariant-loop-name l = record {
  tallies : l.self.tallies ≡ with_changes if_any (take l.name-index l.changes) l.initial.self.tallies;
  pairs : l.self.pairs ≡ with_changes least_counted (take l.name-index l.changes) l.initial.self.pairs;
  room : length l.changes ≤ l.self.spare + l.name-index;
}

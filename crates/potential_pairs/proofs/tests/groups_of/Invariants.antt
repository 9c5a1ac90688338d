use Rattle.std.proofs.Common.{◌≡◌}
use Rattle.relation_groups.specs.Reading.{relations_in}
use Rattle.relation_groups.specs.Relations.{at_first}
use Rattle.potential_pairs.proofs.tests.groups_of.Given as goal

abbrev pub invariant-loop : goal.invariant-loop
invariant-loop g l = relations_in l.groups ≡ at_first

use Rattle.relation_groups.specs.Reading.{relations_in, size_of}
use Rattle.potential_pairs.specs.Planning.{AreFound}
use Rattle.potential_pairs.specs.Potential.{AreBelow, AreOf}
use Rattle.potential_pairs.proofs.tests.pairs_of.Given as goal

abbrev pub invariant-loop-turn : goal.invariant-loop-turn
invariant-loop-turn g l = record {
  of : AreOf (relations_in l.groups) l.pairs.rows;
  found : AreFound (size_of l.groups) l.pairs.rows.near l.found;
  below : AreBelow (size_of l.groups) l.pairs.rows.near;
}

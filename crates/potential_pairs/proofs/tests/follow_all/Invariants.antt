use Rattle.std.proofs.Common.{◌≡◌, List}
use Rattle.media_types.specs.declared.decision.Decision.{Decision}
use Rattle.relation_groups.specs.Laws.{AreOfTwo}
use Rattle.relation_groups.specs.Reading.{relations_in, size_of}
use Rattle.relation_groups.specs.Relations.{relations}
use Rattle.potential_pairs.specs.Potential.{AreBelow, AreOf}
use Rattle.potential_pairs.proofs.tests.follow_all.Given as goal

abbrev pub invariant-loop-decision : goal.invariant-loop-decision
invariant-loop-decision g l = record {
  made : (ds : List Decision) × AreOfTwo ds × (relations_in l.groups ≡ relations ds);
  of : AreOf (relations_in l.groups) l.pairs.rows;
  below : AreBelow (size_of l.groups) l.pairs.rows.near;
}

use Rattle.potential_pairs.specs.Levels.{IsLeastHead}
use Rattle.potential_pairs.proofs.heads.least_head.Given as goal

abbrev pub invariant-loop-distance : goal.invariant-loop-distance
invariant-loop-distance l = IsLeastHead l.heads l.distance l.least

use Rattle.std.proofs.Common.{◌≡◌, nat_lt, count_by}
use Rattle.std.specs.Map.{values_of}
use Rattle.potential_pairs.proofs.distance_map.DistanceMap.count.Given as goal

abbrev pub invariant-loop-distance : goal.invariant-loop-distance
invariant-loop-distance l = l.pairs ≡ count_by (λ v. nat_lt v l.distance) (values_of l.self-inside.distances.rows)

use Rattle.std.proofs.Common.{◌≡◌, ◌≤◌, ◌<◌, ◌+◌, ℕ, None, get_or, length}
use Rattle.potential_pairs.specs.Levels.{IsHead}
use Rattle.potential_pairs.proofs.distance_map.DistanceMap.heads.Given as goal

abbrev pub invariant-loop-distance : goal.invariant-loop-distance
invariant-loop-distance g l = record {
  done : (d : ℕ) → d < l.distance → IsHead l.self.rows l.fn.at_most l.fn.place d (get_or l.heads d None);
  rest : (d : ℕ) → l.distance ≤ d → get_or l.heads d None ≡ None;
  long : length l.heads ≡ 17;
  reads : l.steps ≤ l.initial.steps + l.distance;
}

use Rattle.std.proofs.Common.{ℕ, ◌≡◌, ◌==◌, ◌<◌, length, count_by, take, get_or}
use Rattle.media_types.specs.Distance.{distance_of}
use Rattle.vp_tree.proofs.building.count_distances.Given as goal

abbrev pub invariant-loop-other : goal.invariant-loop-other
invariant-loop-other l = record {
  len : length l.counts ≡ 65;
  each : (d : ℕ) → d < 65 → get_or l.counts d 0 ≡ count_by (λ q. distance_of q.word l.fn.point.word == d) (take l.other-index l.others);
}

use Rattle.std.proofs.Common.{ℕ, ◌≡◌, ◌<◌, nat_lt, false, count_by}
use Rattle.media_types.specs.Distance.{distance_of}
use Rattle.vp_tree.specs.Building.{has_half}
use Rattle.vp_tree.proofs.building.find_radius.Given as goal

abbrev pub invariant-loop-radius : goal.invariant-loop-radius
invariant-loop-radius l = record {
  counted : l.within ≡ count_by (λ q. nat_lt (distance_of q.word l.fn.point.word) l.radius) l.others;
  missed : (s : ℕ) → s < l.radius → has_half l.fn.point l.others s ≡ false;
}

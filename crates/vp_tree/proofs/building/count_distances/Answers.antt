use Rattle.std.proofs.Common.{◌∙◌, refl, arith}
use Rattle.std.proofs.lemmas.List.{get_or-replicate, length-set}
use Rattle.vp_tree.proofs.Radii.{tallied-more, tallied-few}
use Rattle.vp_tree.proofs.building.count_distances.Goals as goal

pub loop-other-init : goal.loop-other-init
loop-other-init c = record { len = refl; each = λ d lt. get_or-replicate 65 d 0 0 lt }

pub overflow_add-counts : goal.overflow_add-counts
overflow_add-counts c =
    omega (arith, tallied-few c.args.point c.args.others.now c.loop-other.other-index c.distance.result _ (c.loop-other.invariant.each c.distance.result (omega (arith, c.distance.ensures.at_most))), c.requires)

pub loop-other-preserved : goal.loop-other-preserved
loop-other-preserved c = record {
  len = length-set c.loop-other.counts c.distance.result _ ∙ c.loop-other.invariant.len;
  each = λ d lt. tallied-more c.args.point c.args.others.now c.loop-other.other-index d c.distance.result _ c.loop-other.counts
      c.loop-other-test.true c.distance.ensures.value (omega (arith, c.distance.ensures.at_most, c.loop-other.invariant.len)) (c.loop-other.invariant.each d lt);
}

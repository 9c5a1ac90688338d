use Rattle.std.proofs.Common.{sym, arith, below_more}
use Rattle.vp_tree.proofs.Radii.{none-nearer, nearer-add, half-reached, half-missed, least_radius-is}
use Rattle.vp_tree.proofs.building.find_radius.Goals as goal

pub loop-radius-init : goal.loop-radius-init
loop-radius-init c = record { counted = sym (none-nearer c.args.point c.args.others.now); missed = λ s lt. absurd (omega (arith, lt)) }

pub returns-then-within-others-clause-least : goal.returns-then-within-others-clause-least
returns-then-within-others-clause-least c =
    let counted = nearer-add c.args.point c.args.others.now c.loop-radius.radius _ _ c.loop-radius.invariant.counted (c.count_distances-counts.ensures c.loop-radius.radius (omega (arith, c.loop-radius-test.true))) in
    sym (least_radius-is c.args.point c.args.others.now c.loop-radius.radius (omega (arith, c.loop-radius-test.true)) c.loop-radius.invariant.missed
    (λ lt. half-reached c.args.point c.args.others.now c.loop-radius.radius _ counted c.if-within-others.true))

pub loop-radius-preserved : goal.loop-radius-preserved
loop-radius-preserved c =
    let counted = nearer-add c.args.point c.args.others.now c.loop-radius.radius _ _ c.loop-radius.invariant.counted (c.count_distances-counts.ensures c.loop-radius.radius (omega (arith, c.loop-radius-test.true))) in
    record {
      counted = counted;
      missed = below_more _ _ c.loop-radius.invariant.missed (half-missed c.args.point c.args.others.now c.loop-radius.radius _ counted c.if-within-others.false);
    }

pub returns-clause-least : goal.returns-clause-least
returns-clause-least c =
    sym (least_radius-is c.args.point c.args.others.now 64 (omega arith) (λ s lt. c.loop-radius.invariant.missed s (omega (arith, lt, c.loop-radius-test.false))) (λ lt. absurd (omega (arith, lt))))

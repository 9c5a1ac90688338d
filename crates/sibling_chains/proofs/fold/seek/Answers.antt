use Rattle.std.proofs.Common.{◌∙◌, arith}
use Rattle.sibling_chains.proofs.Beside.{any-step, beside-step}
use Rattle.sibling_chains.proofs.fold.seek.Goals as goal

pub loop-at-preserved : goal.loop-at-preserved
loop-at-preserved c = record {
  any = c.loop-at.invariant.any ∙ any-step c.args.tags.now c.loop-at.at c.args.tag c.loop-at-test.true c.if-tags-at.false;
  end = c.loop-at.invariant.end
      ∙ beside-step c.args.tags.now c.args.chain_ends.now c.loop-at.at c.args.tag c.loop-at-test.true (omega (arith, c.requires, c.loop-at-test.true)) c.if-tags-at.false;
}

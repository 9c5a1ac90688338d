use Rattle.std.proofs.Common.{◌∙◌, arith}
use Rattle.tree_upkeep.proofs.Unmarking.{unmarked-first, unmarked-more, unmarked-all}
use Rattle.tree_upkeep.proofs.marks.unmark.Goals as goal

pub loop-number-init : goal.loop-number-init
loop-number-init c = record {
  rows = unmarked-first c.args.nodes.now c.args.marks.now.rows;
  sorted = c.len.ensures.sorted;
  spare = omega arith;
}

pub loop-number-preserved : goal.loop-number-preserved
loop-number-preserved c = record {
  rows = c.remove.ensures.rows
      ∙ unmarked-more c.args.nodes.now c.loop-number.number-index _ c.args.marks.now.rows _ c.loop-number-test.true c.loop-number.invariant.rows c.loop-number.invariant.sorted;
  sorted = c.remove.ensures.sorted;
  spare = omega (arith, c.remove.ensures.spare, c.loop-number.invariant.spare);
}

pub returns-clause-rows : goal.returns-clause-rows
returns-clause-rows c = c.loop-number.invariant.rows ∙ unmarked-all c.args.nodes.now c.loop-number.number-index c.args.marks.now.rows c.loop-number-test.false

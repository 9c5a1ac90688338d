use Rattle.std.proofs.Common.{◌∙◌, arith}
use Rattle.tree_upkeep.proofs.Filling.{next_put}
use Rattle.tree_upkeep.proofs.upkeep.put_in_order.Goals as goal

pub loop-file-preserved : goal.loop-file-preserved
loop-file-preserved c = record {
  rows = rw c.loop-file.invariant.rows at c.insert.ensures.rows ∙ next_put c.args.files.now c.loop-file.file-index (record { 0 = 0 }) c.loop-file-test.true c.requires.ascending;
  room = omega arith;
}

use Rattle.std.proofs.Common.{◌∙◌, refl}
use Rattle.vp_tree.proofs.Replaced.{placeable-at, inside-at, nodes-once, replacing-none, replacing-more, replaced}
use Rattle.vp_tree.proofs.branch.replace_nodes.Goals as goal

pub loop-number-init : goal.loop-number-init
loop-number-init c = record { replacing = replacing-none c.args.table.now.rows c.deref-number-items.result.now; spare = refl }

pub set-requires-clause-at : goal.set-requires-clause-at
set-requires-clause-at c =
    inside-at c.args.table.now.rows c.loop-number.table.rows c.deref-number-items.result.now c.args.plan.now.top.0 c.loop-number.number-index _ c.requires.tree (c.deref-number-items.ensures.value ∙ c.requires.plan.nodes)
    c.loop-number-test.true c.loop-number.invariant.replacing.len

pub set-requires-clause-storable : goal.set-requires-clause-storable
set-requires-clause-storable c =
    (placeable-at c.args.table.now.rows c.deref-number-items.result.now c.args.plan.now.top.0 c.loop-number.number-index _ c.requires.tree (c.deref-number-items.ensures.value ∙ c.requires.plan.nodes) c.loop-number-test.true).1

pub loop-number-preserved : goal.loop-number-preserved
loop-number-preserved c = record {
  replacing = rw c.set.ensures.rows
      (replacing-more c.args.table.now.rows c.loop-number.table.rows c.deref-number-items.result.now c.loop-number.number-index _ c.loop-number-test.true
      (placeable-at c.args.table.now.rows c.deref-number-items.result.now c.args.plan.now.top.0 c.loop-number.number-index _ c.requires.tree (c.deref-number-items.ensures.value ∙ c.requires.plan.nodes) c.loop-number-test.true).0
      (λ j lj. nodes-once c.args.table.now.rows c.deref-number-items.result.now c.args.plan.now.top.0 j c.requires.tree c.requires.plan.top (c.deref-number-items.ensures.value ∙ c.requires.plan.nodes) lj)
      c.loop-number.invariant.replacing);
  spare = c.set.ensures.spare ∙ c.loop-number.invariant.spare;
}

pub returns-clause-rebuilt : goal.returns-clause-rebuilt
returns-clause-rebuilt c =
    replaced c.args.table.now.rows c.loop-number.table.rows c.deref-number-items.result.now c.args.plan.now.top.0 c.loop-number.number-index c.requires.tree c.requires.plan.top
    (c.deref-number-items.ensures.value ∙ c.requires.plan.nodes) c.loop-number-test.false c.loop-number.invariant.replacing

use Rattle.std.proofs.Common.{◌∙◌, ◌-◌, length, Option, Some, refl, ap, arith}
use Rattle.std.proofs.lemmas.List.{length-set}
use Rattle.std.specs.Option.{option_map_or}
use Rattle.media_types.specs.declared.numbers.HashNo.{HashNo}
use Rattle.vp_tree.specs.declared.node.NodeView.{NodeView}
use Rattle.vp_tree.specs.Nodes.{node_at}
use Rattle.vp_tree.specs.Placing.{next_of}
use Rattle.vp_tree.specs.Stored.{uncounted}
use Rattle.vp_tree.proofs.Growing.{IsGrowing, growing-node, growing-more, fewer-left}
use Rattle.vp_tree.proofs.Tables.{set-twice}
use Rattle.vp_tree.proofs.Ways.{left_way, way-step, next-later}
use Rattle.vp_tree.proofs.placing.grow_way.Goals as goal

pub set-requires-clause-at : goal.set-requires-clause-at
set-requires-clause-at g c =
    let before : IsGrowing c.args.table.now.rows c.args.number c.args.word c.loop-next.table.rows (Some c.in-Some.at) =
    rw c.in-Some.is at c.loop-next.invariant.growing in
    omega (arith, ap length c.take-node.ensures.rows, length-set c.loop-next.table.rows c.in-Some.at.0 (uncounted c.take-node.result), before.len, (before.inside c.in-Some.at refl).0)

pub loop-next-smaller : goal.loop-next-smaller
loop-next-smaller g c =
    let before : IsGrowing c.args.table.now.rows c.args.number c.args.word c.loop-next.table.rows (Some c.in-Some.at) =
    rw c.in-Some.is at c.loop-next.invariant.growing in
    let lt = (before.inside c.in-Some.at refl).0 in
    let read = c.take-node.ensures.node ∙ growing-node c.args.table.now.rows c.args.number c.args.word c.loop-next.table.rows c.in-Some.at c.requires.tree before in
    let gap = λ (o : Option HashNo). option_map_or (λ (d : HashNo). length c.args.table.now.rows - d.0) o 0 in
    let fewer = fewer-left (length c.args.table.now.rows) c.in-Some.at.0 (next_of (node_at c.args.table.now.rows c.in-Some.at.0) c.args.word) lt
    (λ d e. next-later c.args.table.now.rows c.args.word c.in-Some.at.0 d c.requires.tree.linked.later lt e) in
    omega (arith, fewer, ap gap c.in-Some.is, ap gap c.next_part-next.ensures, ap (λ (v : NodeView). gap (next_of v c.args.word)) read)

pub loop-next-preserved : goal.loop-next-preserved
loop-next-preserved g c =
    let before : IsGrowing c.args.table.now.rows c.args.number c.args.word c.loop-next.table.rows (Some c.in-Some.at) =
    rw c.in-Some.is at c.loop-next.invariant.growing in
    let lt = (before.inside c.in-Some.at refl).0 in
    let read = c.take-node.ensures.node ∙ growing-node c.args.table.now.rows c.args.number c.args.word c.loop-next.table.rows c.in-Some.at c.requires.tree before in
    let left = λ (o : Option HashNo). length (left_way c.args.table.now.rows c.args.word o) in
    let step = ap length (way-step c.args.table.now.rows c.args.word c.in-Some.at.0 c.requires.tree.linked.later lt) in
    record {
      growing = rw (c.set.ensures.rows, c.take-node.ensures.rows, set-twice, c.grow.ensures.grown, c.next_part-next.ensures, read)
          (growing-more c.args.table.now.rows c.args.number c.args.word c.loop-next.table.rows c.in-Some.at c.requires.tree before);
      spare = c.set.ensures.spare ∙ c.take-node.ensures.spare ∙ c.loop-next.invariant.spare;
      counted = omega (arith, c.loop-next.invariant.counted, c.take-node.ensures.steps, step, ap left c.in-Some.is, ap left c.next_part-next.ensures, ap (λ (v : NodeView). left (next_of v c.args.word)) read);
    }

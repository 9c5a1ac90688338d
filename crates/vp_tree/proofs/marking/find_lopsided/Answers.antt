use Rattle.std.proofs.Common.{◌≡◌, ◌∙◌, ◌-◌, false, length, Option, refl, sym, ap, arith}
use Rattle.std.specs.Option.{option_map_or}
use Rattle.media_types.specs.declared.numbers.HashNo.{HashNo}
use Rattle.vp_tree.specs.declared.node.NodeView.{NodeView}
use Rattle.vp_tree.specs.Marking.{is_lopsided}
use Rattle.vp_tree.specs.Nodes.{node_at}
use Rattle.vp_tree.specs.Placing.{next_of}
use Rattle.vp_tree.specs.Shape.{inward, outward}
use Rattle.vp_tree.proofs.Growing.{fewer-left}
use Rattle.vp_tree.proofs.Marks.{highest, highest-rest, part-inside}
use Rattle.vp_tree.proofs.Ways.{left_way, way-step, next-later}
use Rattle.vp_tree.proofs.marking.find_lopsided.Goals as goal

pub loop-next-init : goal.loop-next-init
loop-next-init g c = record {
  inside = λ d e. let is : 0 ≡ d.0 = cc in omega (arith, is, c.requires.some);
  left = refl;
  counted = omega arith;
}

pub node-node-requires : goal.node-node-requires
node-node-requires g c = c.loop-next.invariant.inside c.in-Some.at c.in-Some.is

pub is_lopsided-requires-clause-inner : goal.is_lopsided-requires-clause-inner
is_lopsided-requires-clause-inner g c =
    rw c.node-node.ensures.node (part-inside c.args.table.now.rows c.in-Some.at.0 inward c.requires.tree.linked.later (c.loop-next.invariant.inside c.in-Some.at c.in-Some.is))

pub is_lopsided-requires-clause-outer : goal.is_lopsided-requires-clause-outer
is_lopsided-requires-clause-outer g c =
    rw c.node-node.ensures.node (part-inside c.args.table.now.rows c.in-Some.at.0 outward c.requires.tree.linked.later (c.loop-next.invariant.inside c.in-Some.at c.in-Some.is))

pub loop-next-smaller : goal.loop-next-smaller
loop-next-smaller g c =
    let rows = c.args.table.now.rows in
    let lt = c.loop-next.invariant.inside c.in-Some.at c.in-Some.is in
    let gap = λ (o : Option HashNo). option_map_or (λ (d : HashNo). length rows - d.0) o 0 in
    let fewer = fewer-left (length rows) c.in-Some.at.0 (next_of (node_at rows c.in-Some.at.0) c.args.word) lt
    (λ d e. next-later rows c.args.word c.in-Some.at.0 d c.requires.tree.linked.later lt e) in
    omega (arith, fewer, ap gap c.in-Some.is, ap gap c.next_part-next.ensures, ap (λ (v : NodeView). gap (next_of v c.args.word)) c.node-node.ensures.node)

pub loop-next-preserved : goal.loop-next-preserved
loop-next-preserved g c =
    let rows = c.args.table.now.rows in
    let at = c.in-Some.at in
    let lt = c.loop-next.invariant.inside at c.in-Some.is in
    let next : c.next_part-next.result ≡ next_of (node_at rows at.0) c.args.word =
    c.next_part-next.ensures ∙ ap (λ (v : NodeView). next_of v c.args.word) c.node-node.ensures.node in
    let step = way-step rows c.args.word at.0 c.requires.tree.linked.later lt in
    let level : is_lopsided rows (node_at rows at.0) ≡ false =
    sym (ap (is_lopsided rows) c.node-node.ensures.node) ∙ sym c.is_lopsided.ensures.lopsided ∙ c.if-is_lopsided.false in
    let left = λ (o : Option HashNo). length (left_way rows c.args.word o) in
    let along = λ (o : Option HashNo). highest rows (left_way rows c.args.word o) in
    record {
      inside = λ d e. (next-later rows c.args.word at.0 d c.requires.tree.linked.later lt (sym next ∙ e)).1;
      left =
          ap along next ∙ sym (highest-rest rows at.0 (left_way rows c.args.word (next_of (node_at rows at.0) c.args.word)) level)
          ∙ ap (highest rows) (sym step) ∙ ap along (sym c.in-Some.is) ∙ c.loop-next.invariant.left;
      counted = omega (arith, c.loop-next.invariant.counted, c.node-node.ensures.steps, c.is_lopsided.ensures.steps, ap length step, ap left c.in-Some.is, ap left next);
    }

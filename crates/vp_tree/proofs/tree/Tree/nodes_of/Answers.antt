use Rattle.std.proofs.Common.{◌∙◌, nat_lt, sum_by, ap, subst}
use Rattle.vp_tree.specs.Building.{is_built}
use Rattle.vp_tree.specs.Nodes.{one_at}
use Rattle.vp_tree.specs.Shape.{IsTree}
use Rattle.vp_tree.proofs.Marks.{any-number}
use Rattle.vp_tree.proofs.Replaced.{built-times}
use Rattle.vp_tree.proofs.tree.Tree.nodes_of.Goals as goal

pub returns : goal.returns
returns c = λ k.
    let tree = subst IsTree (ap (λ t. t.rows) c.self.view_is) c.self.invariant in
    ap (λ nodes. is_built nodes k) c.deref.ensures.value
    ∙ any-number k c.args.plan.now.nodes.items
    ∙ ap (nat_lt 0) (ap (sum_by (λ b. one_at k b.0.0)) c.requires.nodes ∙ built-times c.args.self.now.rows c.args.plan.now.top.0 k tree c.requires.top)

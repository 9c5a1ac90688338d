use Rattle.std.proofs.Common.{◌∙◌, length, sym, ap, arith}
use Rattle.vp_tree.specs.Nodes.{node_at}
use Rattle.vp_tree.proofs.Tables.{length-joined, node_at-joined}
use Rattle.vp_tree.proofs.table.NodeTable.node.Goals as goal

pub get-node-requires : goal.get-node-requires
get-node-requires g c = omega (arith, c.from-at.ensures, c.requires, length-joined c.self.inside.nodes.rows c.self.inside.counts.rows c.self.invariant, ap (λ t. length t.rows) c.self.view_is)

pub get-counts-requires : goal.get-counts-requires
get-counts-requires g c = omega (arith, c.from-at.ensures, c.requires, c.self.invariant, length-joined c.self.inside.nodes.rows c.self.inside.counts.rows c.self.invariant, ap (λ t. length t.rows) c.self.view_is)

pub returns-clause-node : goal.returns-clause-node
returns-clause-node g c =
    let nodes = c.self.inside.nodes.rows in
    let counts = c.self.inside.counts.rows in
    c.view_of.ensures.view
    ∙ sym (node_at-joined nodes counts c.from-at.result c.get-node.result.now c.get-counts.result.now c.get-node.ensures.row c.get-counts.ensures.row)
    ∙ ap (λ t. node_at t.rows c.from-at.result) c.self.view_is
    ∙ ap (node_at c.args.self.now.rows) c.from-at.ensures

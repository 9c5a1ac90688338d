use Rattle.std.proofs.Common.{◌∙◌, length, sym, ap, arith}
use Rattle.vp_tree.specs.Nodes.{node_at}
use Rattle.vp_tree.specs.Stored.{searched}
use Rattle.vp_tree.proofs.Tables.{length-joined, node_there}
use Rattle.vp_tree.proofs.table.NodeTable.read.Goals as goal

pub get-requires : goal.get-requires
get-requires g c = omega (arith, c.from.ensures, c.requires, length-joined c.self.inside.nodes.rows c.self.inside.counts.rows c.self.invariant, ap (λ t. length t.rows) c.self.view_is)

pub returns-clause-node : goal.returns-clause-node
returns-clause-node g c =
    sym (node_there c.self.inside.nodes.rows c.self.inside.counts.rows c.from.result c.get.result.now c.self.invariant c.get.ensures.row)
    ∙ ap (λ t. searched (node_at t.rows c.from.result)) c.self.view_is
    ∙ ap (λ at. searched (node_at c.args.self.now.rows at)) c.from.ensures

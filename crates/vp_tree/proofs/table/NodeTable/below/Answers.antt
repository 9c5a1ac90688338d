use Rattle.std.proofs.Common.{◌∙◌, length, sym, ap, arith}
use Rattle.vp_tree.specs.Nodes.{node_at}
use Rattle.vp_tree.proofs.Tables.{length-joined, below_there}
use Rattle.vp_tree.proofs.table.NodeTable.below.Goals as goal

pub get-requires : goal.get-requires
get-requires g c = omega (arith, c.from.ensures, c.requires, c.self.invariant, length-joined c.self.inside.nodes.rows c.self.inside.counts.rows c.self.invariant, ap (λ t. length t.rows) c.self.view_is)

pub returns-clause-below : goal.returns-clause-below
returns-clause-below g c =
    sym (below_there c.self.inside.nodes.rows c.self.inside.counts.rows c.from.result c.get.result.now c.self.invariant c.get.ensures.row)
    ∙ ap (λ t. (node_at t.rows c.from.result).below) c.self.view_is
    ∙ ap (λ at. (node_at c.args.self.now.rows at).below) c.from.ensures

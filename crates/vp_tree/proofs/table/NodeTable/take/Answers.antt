use Rattle.std.proofs.Common.{◌∙◌, length, sym, ap, arith}
use Rattle.std.proofs.Math.ListN.{set}
use Rattle.vp_tree.specs.Nodes.{node_at}
use Rattle.vp_tree.specs.Stored.{joined, uncounted}
use Rattle.vp_tree.proofs.Tables.{joined-counts, length-joined, node_at-joined}
use Rattle.vp_tree.proofs.table.NodeTable.take.Goals as goal

pub exchange-counts-requires : goal.exchange-counts-requires
exchange-counts-requires g c = omega (arith, c.from-at.ensures, c.requires, c.self.invariant, length-joined c.self.inside.nodes.rows c.self.inside.counts.rows c.self.invariant, ap (λ t. length t.rows) c.self.view_is)

pub get-requires : goal.get-requires
get-requires g c = omega (arith, c.from-at.ensures, c.requires, length-joined c.self.inside.nodes.rows c.self.inside.counts.rows c.self.invariant, ap (λ t. length t.rows) c.self.view_is)

pub returns-clause-node : goal.returns-clause-node
returns-clause-node g c =
    let nodes = c.self.inside.nodes.rows in
    let counts = c.self.inside.counts.rows in
    c.view_of.ensures.view
    ∙ sym (node_at-joined nodes counts c.from-at.result c.get.result.now c.exchange-counts.result c.get.ensures.row c.exchange-counts.ensures.old)
    ∙ ap (λ t. node_at t.rows c.from-at.result) c.self.view_is
    ∙ ap (node_at c.args.self.now.rows) c.from-at.ensures

pub returns-clause-rows : goal.returns-clause-rows
returns-clause-rows g c =
    let nodes = c.self.inside.nodes.rows in
    let counts = c.self.inside.counts.rows in
    ap (joined nodes) c.exchange-counts.ensures.rows
    ∙ joined-counts nodes counts c.from-at.result c.get.result.now (record { below = 0; built = 0 }) c.get.ensures.row
    ∙ ap (λ v. set (joined nodes counts) c.from-at.result (uncounted v)) (sym c.view_of.ensures.view)
    ∙ ap (λ t. set t.rows c.from-at.result (uncounted c.view_of.result)) c.self.view_is
    ∙ ap (λ at. set c.args.self.now.rows at (uncounted c.view_of.result)) c.from-at.ensures

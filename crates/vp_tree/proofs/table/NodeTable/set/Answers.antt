use Rattle.std.proofs.Common.{◌∙◌, length, ap, arith}
use Rattle.vp_tree.proofs.Tables.{length-joined, joined-set}
use Rattle.std.proofs.Math.ListN.{set}
use Rattle.vp_tree.proofs.table.NodeTable.set.Goals as goal

pub set-requires : goal.set-requires
set-requires c = omega (arith, c.from-at.ensures, c.requires.at, length-joined c.self.inside.nodes.rows c.self.inside.counts.rows c.self.invariant, ap (λ t. length t.rows) c.self.view_is)

pub set-requires-2 : goal.set-requires-2
set-requires-2 c = omega (arith, c.from-at.ensures, c.requires.at, c.self.invariant, length-joined c.self.inside.nodes.rows c.self.inside.counts.rows c.self.invariant, ap (λ t. length t.rows) c.self.view_is)

pub returns-clause-rows : goal.returns-clause-rows
returns-clause-rows c =
    rw (c.set.ensures.rows, c.set-2.ensures.rows, c.new.ensures, c.new-2.ensures, c.new-3.ensures, c.from-at.ensures)
    (joined-set c.self.inside.nodes.rows c.self.inside.counts.rows c.args.at.0 _ _ c.self.invariant ∙ ap (λ t. set t.rows c.args.at.0 c.args.node) c.self.view_is)

use Rattle.std.proofs.Common.{◌∙◌, ◌∷◌, [], ◌++◌, ap}
use Rattle.vp_tree.proofs.Tables.{joined-push}
use Rattle.vp_tree.specs.Nodes.{leaf}
use Rattle.vp_tree.proofs.table.NodeTable.push_leaf.Goals as goal

pub returns-clause-rows : goal.returns-clause-rows
returns-clause-rows c =
    rw (c.push.ensures.rows, c.push-2.ensures.rows, c.new.ensures, c.new-2.ensures, c.new-3.ensures)
    (joined-push c.self.inside.nodes.rows c.self.inside.counts.rows _ _ c.self.invariant ∙ ap (λ t. t.rows ++ leaf c.args.word ∷ []) c.self.view_is)

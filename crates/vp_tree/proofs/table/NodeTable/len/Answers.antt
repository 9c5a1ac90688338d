use Rattle.std.proofs.Common.{◌∙◌, sym, ap, length}
use Rattle.vp_tree.proofs.Tables.{length-joined}
use Rattle.vp_tree.proofs.table.NodeTable.len.Goals as goal

pub returns : goal.returns
returns c =
    c.len.ensures ∙ sym (length-joined c.self.inside.nodes.rows c.self.inside.counts.rows c.self.invariant) ∙ ap (λ t. length t.rows) c.self.view_is

use Rattle.std.proofs.Common.{◌∙◌, length, ap, arith}
use Rattle.vp_tree.specs.Nodes.{words_in}
use Rattle.vp_tree.proofs.Rebuilt.{rebuilt-tree}
use Rattle.vp_tree.proofs.Words.{rebuilt-words_in, rebuilt-whole}
use Rattle.vp_tree.proofs.tree.Tree.commit_build.Goals as goal

pub invariant_of-self : goal.invariant_of-self
invariant_of-self c =
    rebuilt-tree c.self.inside.table.rows _ c.args.plan.top.0 c.self.invariant c.replace_nodes.ensures.rebuilt
    (omega (arith, c.requires.top, ap (λ t. length t.rows) c.self.view_is))

pub returns-clause-words : goal.returns-clause-words
returns-clause-words c =
    rebuilt-words_in c.self.inside.table.rows _ c.args.plan.top.0 c.self.invariant c.replace_nodes.ensures.rebuilt
    (omega (arith, c.requires.top, ap (λ t. length t.rows) c.self.view_is))
    ∙ ap (λ t. words_in t.rows) c.self.view_is

pub returns-clause-whole : goal.returns-clause-whole
returns-clause-whole c =
    rebuilt-whole c.self.inside.table.rows _ c.args.plan.top.0 c.self.invariant c.replace_nodes.ensures.rebuilt
    (omega (arith, c.requires.top, ap (λ t. length t.rows) c.self.view_is))

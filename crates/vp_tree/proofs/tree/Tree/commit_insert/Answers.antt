use Rattle.std.proofs.Common.{◌∙◌, [], ◌∷◌, ◌++◌, length, sym, ap, arith}
use Rattle.vp_tree.specs.Nodes.{words_in}
use Rattle.vp_tree.proofs.Placed.{pushed-placed, placed-tree}
use Rattle.vp_tree.proofs.Words.{placed-words_in}
use Rattle.vp_tree.proofs.tree.Tree.commit_insert.Goals as goal

pub invariant_of-self : goal.invariant_of-self
invariant_of-self g c =
    let same = ap (λ t. t.rows) c.self.view_is in
    placed-tree c.self.inside.table.rows c.push_leaf.new.self.rows c.args.plan.word c.self.invariant
    (pushed-placed c.self.inside.table.rows c.grow_way.new.table.rows c.push_leaf.new.self.rows c.args.plan.word _ (c.len.ensures.len ∙ ap length (sym same))
    c.grow_way.ensures.len c.grow_way.ensures.each c.push_leaf.ensures.rows)
    (omega (arith, c.requires.few, ap length same)) (rw same c.requires.other)

pub find_lopsided-requires-clause-tree : goal.find_lopsided-requires-clause-tree
find_lopsided-requires-clause-tree g c =
    let same = ap (λ t. t.rows) c.self.view_is in
    placed-tree c.self.inside.table.rows c.push_leaf.new.self.rows c.args.plan.word c.self.invariant
    (pushed-placed c.self.inside.table.rows c.grow_way.new.table.rows c.push_leaf.new.self.rows c.args.plan.word _ (c.len.ensures.len ∙ ap length (sym same))
    c.grow_way.ensures.len c.grow_way.ensures.each c.push_leaf.ensures.rows)
    (omega (arith, c.requires.few, ap length same)) (rw same c.requires.other)

pub returns-clause-words : goal.returns-clause-words
returns-clause-words g c =
    let same = ap (λ t. t.rows) c.self.view_is in
    placed-words_in c.self.inside.table.rows c.push_leaf.new.self.rows c.args.plan.word
    (pushed-placed c.self.inside.table.rows c.grow_way.new.table.rows c.push_leaf.new.self.rows c.args.plan.word _ (c.len.ensures.len ∙ ap length (sym same))
    c.grow_way.ensures.len c.grow_way.ensures.each c.push_leaf.ensures.rows)
    ∙ ap (λ ns. words_in ns ++ c.args.plan.word ∷ []) same

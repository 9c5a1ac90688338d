use Rattle.std.proofs.Common.{◌≡◌, ◌++◌, take}
use Rattle.vp_tree.specs.Nodes.{words_in}
use Rattle.near_search.proofs.tests.insert_all.Given as goal

abbrev pub invariant-loop-word : goal.invariant-loop-word
invariant-loop-word g l = words_in l.tree.rows ≡ words_in l.initial.tree.rows ++ take l.word-index l.words

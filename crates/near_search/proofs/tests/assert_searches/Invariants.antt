use Rattle.std.proofs.Common.{◌≡◌}
use Rattle.file_records.specs.Words.{words_of}
use Rattle.vp_tree.specs.Nodes.{words_in}
use Rattle.near_search.proofs.tests.assert_searches.Given as goal

abbrev pub invariant-loop-searched : goal.invariant-loop-searched
invariant-loop-searched g l = words_in l.tree.rows ≡ words_of l.files.rows

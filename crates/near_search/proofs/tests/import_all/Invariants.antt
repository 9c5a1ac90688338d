use Rattle.std.proofs.Common.{◌≡◌}
use Rattle.file_records.specs.Words.{words_of}
use Rattle.vp_tree.specs.Nodes.{words_in}
use Rattle.near_search.proofs.tests.import_all.Given as goal

abbrev pub invariant-loop-words : goal.invariant-loop-words
invariant-loop-words g l = words_in l.tree.rows ≡ words_of l.files.rows

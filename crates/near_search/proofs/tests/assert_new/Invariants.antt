use Rattle.std.proofs.Common.{◌≢◌, ℕ, ◌<◌}
use Rattle.vp_tree.specs.Nodes.{node_at}
use Rattle.near_search.proofs.tests.assert_new.Given as goal

abbrev pub invariant-loop-at : goal.invariant-loop-at
invariant-loop-at g l = (k : ℕ) → k < l.at → (node_at l.tree.rows k).word.0 ≢ l.word.0

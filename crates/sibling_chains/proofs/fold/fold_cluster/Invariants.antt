use Rattle.std.proofs.Common.{◌≡◌, length, take}
use Rattle.sibling_chains.specs.Ends.{end_beside, ends_after}
use Rattle.sibling_chains.specs.Recorded.{pairs_in}
use Rattle.sibling_chains.proofs.fold.fold_cluster.Given as goal

abbrev pub invariant-loop-service : goal.invariant-loop-service
invariant-loop-service l = record {
  len : length l.chain_ends.items ≡ length l.tags;
  met : end_beside l.tags l.chain_ends.items ≡ ends_after (pairs_in (take l.service-index l.service-items) l.rows) (λ t. t);
}

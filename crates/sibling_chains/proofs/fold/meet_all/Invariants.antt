use Rattle.std.proofs.Common.{◌≡◌, length, take}
use Rattle.sibling_chains.specs.Ends.{end_beside, ends_after}
use Rattle.sibling_chains.specs.Recorded.{pairs_of}
use Rattle.sibling_chains.proofs.fold.meet_all.Given as goal

abbrev pub invariant-loop-row : goal.invariant-loop-row
invariant-loop-row l = record {
  len : length l.chain_ends.items ≡ length l.tags;
  met : end_beside l.tags l.chain_ends.items ≡ ends_after (pairs_of (take l.row-index l.rows) l.service) (end_beside l.tags l.initial.chain_ends.items);
}

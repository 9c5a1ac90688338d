use Rattle.std.proofs.Common.{◌≡◌, ℕ, length}
use Rattle.sibling_chains.specs.Ends.{at}
use Rattle.sibling_chains.proofs.Puts.{put_from}
use Rattle.sibling_chains.proofs.chain_ends.ChainEnds.put.Given as goal

abbrev pub invariant-loop-at : goal.invariant-loop-at
invariant-loop-at l = record {
  len : length l.self-inside.ends.items ≡ length l.initial.self-inside.ends.items;
  put : (t : ℕ) → at l.self-inside.ends.items t ≡ put_from l.at l.tags l.ends (at l.initial.self-inside.ends.items t) t;
}

use Rattle.std.proofs.Common.{◌≡◌, ℕ, length}
use Rattle.sibling_chains.specs.Ends.{at}
use Rattle.sibling_chains.proofs.chain_ends.ChainEnds.grow.Given as goal

abbrev pub invariant-loop-tag : goal.invariant-loop-tag
invariant-loop-tag l = record {
  len : length l.self-inside.ends.items ≡ l.tag;
  same : (t : ℕ) → at l.self-inside.ends.items t ≡ at l.initial.self-inside.ends.items t;
}

use Rattle.std.proofs.Common.{◌≡◌, ℕ, cond, ltb, length}
use Rattle.sibling_chains.specs.Ends.{at}
use Rattle.sibling_chains.specs.Known.{label_in}
use Rattle.sibling_chains.specs.Recorded.{ideal}
use Rattle.sibling_chains.proofs.siblings.Siblings.ends_by.Given as goal

abbrev pub invariant-loop-label : goal.invariant-loop-label
invariant-loop-label g l = record {
  long : length l.ends ≡ l.tags;
  ends : (t : ℕ) → at l.ends t ≡ cond (ltb (label_in l.self t) l.label) (ideal l.order l.self.rows t) t;
}

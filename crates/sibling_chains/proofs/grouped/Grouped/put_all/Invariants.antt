use Rattle.std.proofs.Common.{◌≡◌, ◌≤◌, ◌==◌, ℕ, cond, length, take}
use Rattle.std.specs.List.{list_any}
use Rattle.sibling_chains.specs.Ends.{at}
use Rattle.sibling_chains.proofs.grouped.Grouped.put_all.Given as goal

abbrev pub invariant-loop-number : goal.invariant-loop-number
invariant-loop-number l = record {
  len : length l.self.labels ≡ length l.initial.self.labels;
  labels : (k : ℕ) → at l.self.labels k ≡ cond (list_any (λ n. n == k) (take l.number-index l.numbers)) l.label (at l.initial.self.labels k);
  spare : l.initial.self.spare ≤ l.self.spare;
}

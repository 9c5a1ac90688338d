use Rattle.std.proofs.Common.{◌≡◌, ◌≤◌, ◌-◌, length, drop}
use Rattle.parent_closure.specs.Reached.{with_parents}
use Rattle.parent_closure.proofs.search.put_parents.Given as goal

abbrev pub invariant-loop-at : goal.invariant-loop-at
invariant-loop-at l = record {
  first : l.initial.at ≤ l.at;
  found : with_parents l.child (drop l.at l.pairs) l.found ≡ with_parents l.child l.pairs l.initial.found;
}

abbrev pub decreases-loop-at : goal.decreases-loop-at
decreases-loop-at l = length l.pairs - l.at

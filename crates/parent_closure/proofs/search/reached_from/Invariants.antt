use Rattle.std.proofs.Common.{◌+◌, ◌-◌, ◌≤◌, length}
use Rattle.parent_closure.proofs.Searching.{IsBegun, left, met}
use Rattle.parent_closure.proofs.search.reached_from.Given as goal

abbrev pub invariant-loop-at : goal.invariant-loop-at
invariant-loop-at l = record {
  within : l.at ≤ length l.reached;
  begun : IsBegun l.pairs l.start l.reached (met l.start l.reached l.at);
}

abbrev pub decreases-loop-at : goal.decreases-loop-at
decreases-loop-at l = left l.pairs l.start l.reached l.at + (length l.reached - l.at)

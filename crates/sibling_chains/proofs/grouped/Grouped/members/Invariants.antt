use Rattle.std.proofs.Common.{◌≡◌, ◌≤◌, ◌+◌, ◌*◌, ◌-◌, length, filter}
use Rattle.std.specs.List.{range_with_len}
use Rattle.sibling_chains.specs.Ends.{at}
use Rattle.sibling_chains.specs.Grouping.{is_either}
use Rattle.sibling_chains.proofs.grouped.Grouped.members.Given as goal

abbrev pub invariant-loop-number : goal.invariant-loop-number
invariant-loop-number g l = record {
  list : l.list.items ≡ filter (λ n. is_either l.a l.b (at l.self.labels n)) (range_with_len 0 l.from);
  within : l.from ≤ length l.self.labels;
  steps : l.steps ≡ l.initial.steps + 2 * length l.list.items;
}

abbrev pub decreases-loop-number : goal.decreases-loop-number
decreases-loop-number g l = length l.self.labels - l.from

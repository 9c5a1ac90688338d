use Rattle.std.proofs.Common.{◌≡◌, ◌+◌, ◌≤◌, ◌++◌, length}
use Rattle.tree_upkeep.proofs.upkeep.Upkeep.next_search.Given as goal

abbrev pub invariant-loop : goal.invariant-loop
invariant-loop g l = record {
  rows : l.files ++ l.walk ≡ l.self.queue;
  number : length l.files ≡ l.counter;
  bound : l.counter ≤ l.given;
  steps : l.steps ≡ l.initial.steps + l.counter;
}

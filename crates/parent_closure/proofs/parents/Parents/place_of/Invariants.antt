use Rattle.std.proofs.Common.{◌≡◌, ◌<◌, ◌≤◌, ◌-◌, ◌+◌, ◌*◌, ℕ, false, length, get_or}
use Rattle.sibling_chains.specs.Recorded.{no_row}
use Rattle.parent_closure.specs.Kept.{is_pair}
use Rattle.parent_closure.proofs.Places.{places_below}
use Rattle.parent_closure.proofs.parents.Parents.place_of.Given as goal

abbrev pub invariant-loop-number : goal.invariant-loop-number
invariant-loop-number g l = record {
  within : l.from ≤ length l.self.rows;
  reads : l.steps ≤ l.fn.steps + 2 * places_below l.self.rows l.child.0 l.from;
  before : (k : ℕ) → k < l.from → is_pair l.service.0 l.child.0 l.parent.0 (get_or l.self.rows k no_row) ≡ false;
}

abbrev pub decreases-loop-number : goal.decreases-loop-number
decreases-loop-number g l = length l.self.rows - l.from

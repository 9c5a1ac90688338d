use Rattle.std.proofs.Common.{◌≡◌, ◌≤◌, ◌-◌, ◌+◌, ◌*◌, ◌++◌, length}
use Rattle.sibling_chains.specs.Clustered.{rows_but}
use Rattle.parent_closure.proofs.Places.{places_below, rows_before}
use Rattle.parent_closure.proofs.parents.Parents.put_rows.Given as goal

abbrev pub invariant-loop-number : goal.invariant-loop-number
invariant-loop-number g l = record {
  within : l.from ≤ length l.self.rows;
  reads : l.steps ≤ l.fn.steps + 2 * places_below l.self.rows l.child l.from;
  rows : l.rows.items ≡ l.fn.rows.items ++ rows_before (rows_but l.gone l.self.rows) l.child l.from;
}

abbrev pub decreases-loop-number : goal.decreases-loop-number
decreases-loop-number g l = length l.self.rows - l.from

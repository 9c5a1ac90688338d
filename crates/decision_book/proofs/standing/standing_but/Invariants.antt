use Rattle.std.proofs.Common.{◌≡◌, ◌+◌, ◌≤◌, take}
use Rattle.decision_book.specs.Recorded.{undone_at}
use Rattle.decision_book.specs.Standing.{standing}
use Rattle.decision_book.proofs.standing.standing_but.Given as goal

abbrev pub invariant-loop-at : goal.invariant-loop-at
invariant-loop-at g l = record {
  decisions : l.decisions ≡ standing (take l.at (undone_at l.n.0 l.rows.rows));
  reads : l.steps ≤ l.fn.steps + l.at;
}

use Rattle.std.proofs.Common.{◌≡◌, ◌≤◌, ◌+◌}
use Rattle.file_records.proofs.Queues.{queue_below}
use Rattle.file_records.proofs.files.Files.queue.Given as goal

abbrev pub invariant-loop-number : goal.invariant-loop-number
invariant-loop-number g l = record {
  queue : l.queue ≡ queue_below l.within l.self.rows l.number;
  reads : l.steps ≤ l.initial.steps + l.number;
}

use Rattle.std.proofs.Common.{◌≡◌, ◌≤◌, ◌+◌, length, take}
use Rattle.std.specs.List.{filter}
use Rattle.file_records.specs.Searching.{is_queued, passes}
use Rattle.library_tables.proofs.tables.Tables.count_queued.Given as goal

abbrev pub invariant-loop-file : goal.invariant-loop-file
invariant-loop-file g l = record {
  count : l.count ≡ length (filter (λ file. passes (is_queued l.self.distance) l.self.files.rows file.0) (take l.file-index l.files));
  few : l.count ≤ l.file-index;
  reads : l.steps ≡ l.initial.steps + l.file-index;
}

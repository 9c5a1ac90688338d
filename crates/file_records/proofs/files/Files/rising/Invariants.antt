use Rattle.std.proofs.Common.{◌≡◌, ◌≤◌, ◌+◌, length, take}
use Rattle.file_records.specs.Searching.{rising}
use Rattle.file_records.proofs.files.Files.rising.Given as goal

abbrev pub invariant-loop-file : goal.invariant-loop-file
invariant-loop-file g l = record {
  found : l.found ≡ rising l.within (take l.file-index l.file-items) l.self.rows;
  few : length l.found ≤ l.file-index;
  reads : l.steps ≤ l.initial.steps + l.file-index;
}

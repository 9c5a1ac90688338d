use Rattle.std.proofs.Common.{◌≡◌, take}
use Rattle.file_records.specs.Searching.{queue_of, searched}
use Rattle.library_tables.proofs.searches.note_searched.Given as goal

abbrev pub invariant-loop-file : goal.invariant-loop-file
invariant-loop-file l = record {
  rows : l.files.rows ≡ searched l.distance (take l.file-index l.found) l.fn.files.rows;
  queued : l.upkeep.queue ≡ queue_of l.library l.files.rows;
  marks : l.upkeep.marks ≡ l.fn.upkeep.marks;
}

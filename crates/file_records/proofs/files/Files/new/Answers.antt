use Rattle.file_records.proofs.Holders.{none_held}
use Rattle.file_records.proofs.Lookups.{index_of_none}
use Rattle.file_records.proofs.files.Files.new.Goals as goal

pub invariant_of-result : goal.invariant_of-result
invariant_of-result c = (
  rw (c.new.ensures.empty, c.new-2.ensures.items) index_of_none,
  rw (c.new-3.ensures.empty, c.new-4.ensures.rows, c.new-2.ensures.items) none_held,
)

use Rattle.std.proofs.Common.{◌≡◌, ◌*◌, ◌^◌, ◌≤◌, take}
use Rattle.spare_tables.specs.Firsts.{of_first}
use Rattle.word_chunks.specs.Reading.{reads_in}
use Rattle.word_chunks.proofs.table.ChunkTable.reads_in.Given as goal

abbrev pub invariant-loop-mask : goal.invariant-loop-mask
invariant-loop-mask l = record {
  value : l.reads ≡ reads_in l.fn.query.chunk l.fn.query.word (λ v. of_first v l.self.rows) (take l.mask-index l.masks);
  small : l.reads ≤ l.mask-index * 2 ^ 33;
}

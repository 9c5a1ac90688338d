use Rattle.std.proofs.Common.{◌≡◌, ◌+◌, ◌++◌, take}
use Rattle.spare_tables.specs.Firsts.{of_first}
use Rattle.word_chunks.specs.Reading.{reads_in}
use Rattle.word_chunks.specs.Telling.{told_in}
use Rattle.word_chunks.proofs.table.ChunkTable.tell_all.Given as goal

abbrev pub invariant-loop-mask : goal.invariant-loop-mask
invariant-loop-mask g l = record {
  told : l.hits.items ≡ l.fn.hits.items
      ++ told_in l.query.chunk l.query.word l.query.within (λ v. of_first v l.self.rows) (take l.mask-index l.masks);
  counted : l.steps ≡ l.fn.steps + reads_in l.query.chunk l.query.word (λ v. of_first v l.self.rows) (take l.mask-index l.masks);
}

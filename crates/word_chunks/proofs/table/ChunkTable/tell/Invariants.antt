use Rattle.std.proofs.Common.{◌≡◌, ◌+◌, ◌++◌, length}
use Rattle.std.specs.List.{flat_map}
use Rattle.spare_tables.specs.Firsts.{of_first}
use Rattle.word_chunks.specs.Telling.{told}
use Rattle.word_chunks.proofs.table.ChunkTable.tell.Given as goal

abbrev pub invariant-loop-number : goal.invariant-loop-number
invariant-loop-number g l = record {
  told : l.hits.items ++ flat_map (told l.query.chunk l.query.word l.query.within) l.walk
      ≡ l.fn.hits.items ++ flat_map (told l.query.chunk l.query.word l.query.within) (of_first l.value l.self.rows);
  counted : l.steps + length l.walk ≡ l.fn.steps + (length (of_first l.value l.self.rows) + 2);
}

abbrev pub decreases-loop-number : goal.decreases-loop-number
decreases-loop-number g l = length l.walk

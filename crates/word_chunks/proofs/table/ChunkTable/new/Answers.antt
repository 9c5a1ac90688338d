use Rattle.std.proofs.Common.{refl}
use Rattle.word_chunks.proofs.Puts.{counted-none}
use Rattle.word_chunks.proofs.table.ChunkTable.new.Goals as goal

pub invariant_of-result : goal.invariant_of-result
invariant_of-result c = rw c.new.ensures.rows (counted-none _ 65536 refl (c.in_ok-from_elem.ensures.items_if_clones_equal (λ y same. same)))

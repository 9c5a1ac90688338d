use Rattle.std.proofs.Common.{arith}
use Rattle.word_chunks.proofs.table.ChunkTable.reads_in.Goals as goal

pub returns-clause-small : goal.returns-clause-small
returns-clause-small c = omega (arith, c.loop-mask.invariant.small, c.loop-mask.auto.mask-index-end, c.requires.few)

use Rattle.word_chunks.proofs.chunk.+is_first_near.Given as goal

abbrev pub decreases-is_first_near : goal.decreases-is_first_near
decreases-is_first_near l = l.c

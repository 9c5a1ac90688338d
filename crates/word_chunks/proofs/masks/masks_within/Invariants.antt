use Rattle.std.proofs.Common.{◌≡◌}
use Rattle.word_chunks.specs.Masks.{masks_below}
use Rattle.word_chunks.proofs.masks.masks_within.Given as goal

abbrev pub invariant-loop-mask : goal.invariant-loop-mask
invariant-loop-mask l = l.masks.items ≡ masks_below l.bits l.mask

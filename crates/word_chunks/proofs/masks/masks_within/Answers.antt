use Rattle.std.proofs.Common.{◌∙◌, sym}
use Rattle.word_chunks.specs.MaskLaws.{masks_none, masks_push, masks_pass}
use Rattle.word_chunks.proofs.masks.masks_within.Goals.{then-mask-bits+in_ok-push, else-mask-bits}
use Rattle.word_chunks.proofs.masks.masks_within.Goals as goal

pub loop-mask-init : goal.loop-mask-init
loop-mask-init c = c.new-masks.ensures.items ∙ sym (masks_none c.args.bits)

pub loop-mask-preserved : goal.loop-mask-preserved
loop-mask-preserved c =
    elim c.if-mask-bits.branch [
      | then-mask-bits+in_ok-push w ↦
          rw (w.masks-is, w.in_ok-push.ensures.items, masks_push c.args.bits c.loop-mask.mask w.if-mask-bits.true, c.loop-mask.invariant)
      | else-mask-bits w ↦ rw (w.masks-is, masks_pass c.args.bits c.loop-mask.mask w.if-mask-bits.false) c.loop-mask.invariant
    ]

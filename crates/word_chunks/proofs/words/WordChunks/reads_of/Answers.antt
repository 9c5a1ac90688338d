use Rattle.std.proofs.Common.{◌≡◌, ◌∙◌, ◌/◌, ◌≤◌, length, ap, arith}
use Rattle.word_chunks.specs.MaskLaws.{masks_are}
use Rattle.word_chunks.specs.Masks.{masks_below}
use Rattle.word_chunks.specs.Reading.{reads}
use Rattle.word_chunks.proofs.Told.{reads-gathered}
use Rattle.word_chunks.proofs.words.WordChunks.reads_of.Goals as goal

pub reads_in-first-requires-clause-few : goal.reads_in-first-requires-clause-few
reads_in-first-requires-clause-few c = omega (arith, ap length c.within-masks.ensures, (masks_are 65536 (c.bits.result / 4)).len)

pub reads_in-second-requires-clause-few : goal.reads_in-second-requires-clause-few
reads_in-second-requires-clause-few c = omega (arith, ap length c.within-masks.ensures, (masks_are 65536 (c.bits.result / 4)).len)

pub reads_in-third-requires-clause-few : goal.reads_in-third-requires-clause-few
reads_in-third-requires-clause-few c = omega (arith, ap length c.within-masks.ensures, (masks_are 65536 (c.bits.result / 4)).len)

pub reads_in-fourth-requires-clause-few : goal.reads_in-fourth-requires-clause-few
reads_in-fourth-requires-clause-few c = omega (arith, ap length c.within-masks.ensures, (masks_are 65536 (c.bits.result / 4)).len)

pub returns : goal.returns
returns c =
    let masks : c.within-masks.result.now ≡ masks_below (c.args.distance / 4) 65536 = c.within-masks.ensures ∙ ap (λ d. masks_below (d / 4) 65536) c.bits.ensures.value in
    omega (
      arith,
      c.reads_in-first.ensures.value,
      c.reads_in-second.ensures.value,
      c.reads_in-third.ensures.value,
      c.reads_in-fourth.ensures.value,
      reads-gathered c.self.inside.first.rows c.self.inside.second.rows c.self.inside.third.rows c.self.inside.fourth.rows c.self.invariant c.args.word c.args.distance
          c.within-masks.result.now masks,
      ap (λ t. reads t.rows c.args.word c.args.distance) c.self.view_is,
    )

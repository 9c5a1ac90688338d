use Rattle.std.proofs.Common.{◌<◌, length, take_all, All, sym, ◌∙◌, subst, arith}
use Rattle.std.proofs.lemmas.List.Elements.{All-more}
use Rattle.media_types.specs.declared.numbers.FileNo.{FileNo}
use Rattle.file_records.proofs.tests.searching.assert_rising.Goals as goal

pub loop-file-preserved : goal.loop-file-preserved
loop-file-preserved g c =
    let zero : FileNo = record { 0 = 0 } in
    All-more (λ f. f.0 < length c.args.files.now.rows) c.as_slice-file-items.result.now c.loop-file.file-index zero c.loop-file-test.true c.loop-file.invariant
    (omega (arith, c.len.ensures.rows))

pub rising-requires : goal.rising-requires
rising-requires g c =
    let n = length c.args.files.now.rows in
    let read = c.as_slice-file-items.result.now in
    subst (All (λ f. f.0 < n))
    (take_all c.loop-file.file-index read (omega arith) ∙ c.as_slice-file-items.ensures ∙ sym c.as_slice.ensures) c.loop-file.invariant

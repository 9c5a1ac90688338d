use Rattle.std.proofs.Common.{◌≡◌, ◌∙◌, ◌++◌, ◌∷◌, [], Some, get_or, slice_get, rules}
use Rattle.media_types.specs.declared.numbers.TagNo.{TagNo}
use Rattle.library_tables.proofs.Implying.{texts_more}
use Rattle.library_tables.proofs.tables.Tables.texts_of.Goals as goal

pub loop-tag-preserved : goal.loop-tag-preserved
loop-tag-preserved c =
    let texts = c.args.self.now.tags.texts in
    let d : TagNo = record { 0 = 0 } in
    let at : slice_get texts (get_or c.args.tags.now c.loop-tag.tag-index d).0 ≡ Some c.in_ok-copied.field-0 = search rules in
    let pushed : c.push.new.self ≡ c.loop-tag.texts ++ c.in_ok-copied.field-0 ∷ [] = search rules in
    pushed ∙ texts_more texts c.args.tags.now c.loop-tag.texts c.loop-tag.tag-index d c.in_ok-copied.field-0 (search rules) c.loop-tag.invariant at

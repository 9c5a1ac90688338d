use Rattle.std.proofs.Common.{◌≡◌, arith, ◌∙◌}
use Rattle.tag_store.specs.Numbering.{is_tag}
use Rattle.tag_store.specs.NumberingLaws.{is_numbered, length_behind}
use Rattle.library_tables.proofs.tables.Tables.tags_with.Goals as goal

pub returns : goal.returns
returns c =
    let texts = c.args.self.now.tags.texts in
    let first = c.args.pair.now.first in
    let second = c.args.pair.now.second in
    let known : c.has_tag.result ≡ is_tag first texts = c.has_tag.ensures ∙ is_numbered first texts in
    let counted = length_behind first second texts in
    grind (arith, known, counted)

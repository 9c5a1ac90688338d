use Rattle.std.proofs.Common.{sym, ◌∙◌}
use Rattle.tag_store.specs.NumberingLaws.{unnumbered_next}
use Rattle.tag_store.proofs.tags.Tags.number.Goals as goal

pub returns-in-None : goal.returns-in-None
returns-in-None c = c.len.ensures.texts ∙ sym (unnumbered_next c.args.text.now c.args.self.now.texts (sym c.in-None.ensures))

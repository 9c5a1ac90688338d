use Rattle.std.proofs.Common.{sym, subst}
use Rattle.tag_store.specs.Numbering.{HasPlaceFor, Numbered}
use Rattle.tag_store.proofs.TagTexts.{AreTags-with_tag}
use Rattle.tag_store.proofs.tags.Tags.insert.Goals as goal

pub invariant_of-self : goal.invariant_of-self
invariant_of-self c =
    let place = subst (λ (tags : Numbered). HasPlaceFor c.args.text tags.texts) (sym c.self.view_is) c.requires.few in
    rw (rw c.unwrap-at.ensures at c.insert_full.ensures.keys) (AreTags-with_tag c.args.text c.self.inside.index.keys place c.as_bytes-bytes.ensures.tag c.self.invariant)

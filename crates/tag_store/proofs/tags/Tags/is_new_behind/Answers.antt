use Rattle.std.proofs.Common.{None, Some, refl}
use Rattle.tag_store.specs.NumberingLaws.{tag_behind, tag_by}
use Rattle.tag_store.proofs.tags.Tags.is_new_behind.Goals as goal

pub returns-in-Some : goal.returns-in-Some
returns-in-Some c =
    let known = tag_by c.args.second.now c.args.self.now.texts (Some c.in-Some.field-0.0) c.in-Some.ensures in
    rw (tag_behind c.args.first.now c.args.second.now c.args.self.now.texts, known) refl

pub returns-in-None : goal.returns-in-None
returns-in-None c =
    let new = tag_by c.args.second.now c.args.self.now.texts None c.in-None.ensures in
    rw (tag_behind c.args.first.now c.args.second.now c.args.self.now.texts, new) c.ne.ensures

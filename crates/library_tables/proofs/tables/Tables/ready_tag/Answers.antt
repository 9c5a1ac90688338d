use Rattle.std.proofs.Common.{◌≡◌, ◌<◌, false, length, rules}
use Rattle.tag_types.specs.declared.limits.TheConstants.{MAX_TAGS}
use Rattle.tag_store.specs.Numbering.{is_tag}
use Rattle.library_tables.proofs.Mapping.{known_tag, room_for_new}
use Rattle.library_tables.proofs.tables.Tables.ready_tag.Goals as goal

pub returns-then-has_tag-clause-ready : goal.returns-then-has_tag-clause-ready
returns-then-has_tag-clause-ready c = search (rules, known_tag)

pub returns-clause-ready : goal.returns-clause-ready
returns-clause-ready c =
    let texts = c.args.self.now.tags.texts in
    let new : is_tag c.args.text.now texts ≡ false = search (rules, known_tag) in
    let room : length texts < MAX_TAGS = room_for_new c.args.text.now texts c.requires new in
    search (rules)

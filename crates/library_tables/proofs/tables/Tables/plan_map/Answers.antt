use Rattle.std.proofs.Common.{◌≡◌, true, false, not, Ok, rules, ap, ◌∙◌}
use Rattle.media_base.specs.declared.change.Change.TheVariants as changes
use Rattle.media_base.specs.declared.reply.Answer.TheVariants as answers
use Rattle.library_machine.specs.Needs.{is_met, room_for_mapping, room_for_tag}
use Rattle.library_machine.specs.Changing.{answer_to, does}
use Rattle.library_machine.specs.Records.{Records}
use Rattle.library_machine.specs.Tagging.{is_mapped_so, numbered}
use Rattle.library_tables.specs.Tables.{records_of}
use Rattle.library_tables.proofs.Mapping.{IsOfThere, no_tag_room, no_mapping_room, set_met, set_answer, mapping_prepared, place_for}
use Rattle.library_tables.proofs.tables.Tables.plan_map.Goals as goal

pub returns-then-not-has_room_for_tag-clause-prepared : goal.returns-then-not-has_room_for_tag-clause-prepared
returns-then-not-has_room_for_tag-clause-prepared c =
    let r = records_of c.args.self.now in
    let m = c.args.mapping.now in
    let there : IsOfThere r m = record { file = c.requires.file; service = c.requires.service } in
    let full : is_met r (room_for_tag m.tag) ≡ false = search rules in
    let done = no_tag_room r m there c.requires.state full in
    search rules

pub returns-then-not-has_room_for_mapping-clause-prepared : goal.returns-then-not-has_room_for_mapping-clause-prepared
returns-then-not-has_room_for_mapping-clause-prepared c =
    let r = records_of c.args.self.now in
    let m = c.args.mapping.now in
    let there : IsOfThere r m = record { file = c.requires.file; service = c.requires.service } in
    let room : is_met r (room_for_tag m.tag) ≡ true = search rules in
    let full : is_met r (room_for_mapping m) ≡ false = search rules in
    let done = no_mapping_room r m there c.requires.state room full in
    search rules

pub returns-then-is_so-clause-prepared : goal.returns-then-is_so-clause-prepared
returns-then-is_so-clause-prepared c =
    let r = records_of c.args.self.now in
    let m = c.args.mapping.now in
    let there : IsOfThere r m = record { file = c.requires.file; service = c.requires.service } in
    let room : is_met r (room_for_tag m.tag) ≡ true = search rules in
    let rows : is_met r (room_for_mapping m) ≡ true = search rules in
    let so : is_mapped_so r m ≡ true = search rules in
    let done = set_met r m there c.requires.state room rows in
    let told = set_answer r m c.requires.state in
    search rules

pub ready_mapping-requires : goal.ready_mapping-requires
ready_mapping-requires c =
    let r = records_of c.args.self.now in
    let m = c.args.mapping.now in
    let room : is_met r (room_for_tag m.tag) ≡ true = search rules in
    place_for m.tag r.tags room

pub returns-clause-prepared : goal.returns-clause-prepared
returns-clause-prepared c =
    let r = records_of c.args.self.now in
    let m = c.args.mapping.now in
    let there : IsOfThere r m = record { file = c.requires.file; service = c.requires.service } in
    let room : is_met r (room_for_tag m.tag) ≡ true = search rules in
    let rows : is_met r (room_for_mapping m) ≡ true = search rules in
    let fresh : is_mapped_so r m ≡ false = search rules in
    let told : answers.Mapped (record { tag = numbered r m.tag; changed = not (is_mapped_so r m) }) ≡ answers.Mapped (record { tag = c.numbered.result; changed = not c.is_same-is_so.result }) = search rules in
    let same = c.ready_mapping.ensures.records in
    mapping_prepared c.ready_mapping.new.self m c.in_ok-plan.plan _ c.ready_mapping.ensures.fits
    (ap (λ (r : Records). does r (changes.Mapping m)) same ∙ set_met r m there c.requires.state room rows ∙ ap Ok fresh)
    (ap (λ (r : Records). answer_to r (changes.Mapping m)) same ∙ set_answer r m c.requires.state ∙ told)
    c.in_ok-plan.ensures.ready

use Rattle.std.proofs.Common.{◌≡◌, true, false, not, Ok, rules, ap, ◌∙◌}
use Rattle.media_base.specs.declared.change.Change.TheVariants as changes
use Rattle.media_base.specs.declared.reply.Answer.TheVariants as answers
use Rattle.library_machine.specs.Needs.{has_tag}
use Rattle.library_machine.specs.Changing.{answer_to, does}
use Rattle.library_machine.specs.Records.{Records}
use Rattle.library_machine.specs.Tagging.{is_mapped_so}
use Rattle.library_tables.specs.Tables.{records_of}
use Rattle.library_tables.proofs.Mapping.{IsOfThere, no_such_tag, taken_met, taken_answer, mapping_prepared, known_tag}
use Rattle.library_tables.proofs.tables.Tables.plan_unmap.Goals as goal

pub returns-then-not-has_tag-clause-prepared : goal.returns-then-not-has_tag-clause-prepared
returns-then-not-has_tag-clause-prepared c =
    let r = records_of c.args.self.now in
    let m = c.args.mapping.now in
    let there : IsOfThere r m = record { file = c.requires.file; service = c.requires.service } in
    let new : has_tag r m.tag ≡ false = search rules in
    let done = no_such_tag r m there c.requires.state new in
    search rules

pub returns-then-is_gone-clause-prepared : goal.returns-then-is_gone-clause-prepared
returns-then-is_gone-clause-prepared c =
    let r = records_of c.args.self.now in
    let m = c.args.mapping.now in
    let there : IsOfThere r m = record { file = c.requires.file; service = c.requires.service } in
    let known : has_tag r m.tag ≡ true = search rules in
    let so : is_mapped_so r m ≡ true = search rules in
    let done = taken_met r m there c.requires.state known in
    let told = taken_answer r m c.requires.state in
    search rules

pub ready_mapping-requires : goal.ready_mapping-requires
ready_mapping-requires c =
    let r = records_of c.args.self.now in
    let m = c.args.mapping.now in
    let known : has_tag r m.tag ≡ true = search rules in
    let is = known_tag m.tag r.tags true known in
    search rules

pub returns-clause-prepared : goal.returns-clause-prepared
returns-clause-prepared c =
    let r = records_of c.args.self.now in
    let m = c.args.mapping.now in
    let there : IsOfThere r m = record { file = c.requires.file; service = c.requires.service } in
    let known : has_tag r m.tag ≡ true = search rules in
    let fresh : is_mapped_so r m ≡ false = search rules in
    let told : answers.Changed (not (is_mapped_so r m)) ≡ answers.Changed (not c.is_same-is_gone.result) = search rules in
    let same = c.ready_mapping.ensures.records in
    mapping_prepared c.ready_mapping.new.self m c.in_ok-plan.plan _ c.ready_mapping.ensures.fits
    (ap (λ (r : Records). does r (changes.Mapping m)) same ∙ taken_met r m there c.requires.state known ∙ ap Ok fresh)
    (ap (λ (r : Records). answer_to r (changes.Mapping m)) same ∙ taken_answer r m c.requires.state ∙ told)
    c.in_ok-plan.ensures.ready

use Rattle.std.proofs.Common.{◌≡◌, ◌∙◌, ◌≤◌, ◌+◌, ◌*◌, ℕ, Some, Ok, true, length, map, slice_get, rules, subst, sym}
use Rattle.media_base.specs.declared.command.Query.TheVariants as queries
use Rattle.media_base.specs.declared.reply.Answer.TheVariants as answers
use Rattle.tag_relations.specs.Work.{cluster_work}
use Rattle.tag_store.specs.Numbering.{number_of}
use Rattle.library_machine.specs.Asking.{asked}
use Rattle.library_machine.specs.Needs.{has_service}
use Rattle.library_machine.specs.RelatedLaws.{ideal_there}
use Rattle.library_machine.specs.Relating.{ancestor_numbers, text_of}
use Rattle.library_tables.specs.Tables.{TablesView, records_of}
use Rattle.library_tables.proofs.Pairing.{found_number, ideal_asked, ideal_same, tag_below}
use Rattle.library_tables.proofs.tables.Tables.tell_ideal.Goals as goal

pub text-requires : goal.text-requires
text-requires g c =
    let view : TablesView = record { files = c.self.inside.files; book = c.self.inside.book; groups = c.self.inside.groups; tree = c.self.inside.tree; pairs = c.self.inside.pairs; work = c.self.inside.upkeep; distance = c.self.inside.distance; tags = c.self.inside.tags; services = c.self.inside.services; mappings = c.self.inside.mappings; relations = c.self.inside.relations } in
    let below = tag_below (records_of view) c.args.text.now c.in-Some.tag.0 c.in-Some.ensures in
    let told = c.ideal-ideal.ensures ∙ ideal_same view c.args.service c.in-Some.tag c.self.invariant.ordered in
    rw told (ideal_there (records_of view) c.args.service c.in-Some.tag c.self.invariant.fits.siblings below)

pub returns-in_err-ancestors-clause-reads : goal.returns-in_err-ancestors-clause-reads
returns-in_err-ancestors-clause-reads g c =
    let r = records_of c.args.self.now in
    let found : Some c.in-Some.tag.0 ≡ number_of c.args.text.now r.tags = subst (λ (t : TablesView). Some c.in-Some.tag.0 ≡ number_of c.args.text.now t.tags.texts) c.self.view_is c.in-Some.ensures in
    subst (λ (n : ℕ). c.ancestors.new.steps ≤ c.args.steps.now + 4 * cluster_work r.siblings r.parents (length r.tags) n n) (sym (found_number r c.args.text.now c.in-Some.tag.0 found)) c.ancestors.ensures.reads

pub returns-clause-reads : goal.returns-clause-reads
returns-clause-reads g c =
    let r = records_of c.args.self.now in
    let found : Some c.in-Some.tag.0 ≡ number_of c.args.text.now r.tags = subst (λ (t : TablesView). Some c.in-Some.tag.0 ≡ number_of c.args.text.now t.tags.texts) c.self.view_is c.in-Some.ensures in
    subst (λ (n : ℕ). c.ancestors.new.steps ≤ c.args.steps.now + 4 * cluster_work r.siblings r.parents (length r.tags) n n) (sym (found_number r c.args.text.now c.in-Some.tag.0 found)) c.ancestors.ensures.reads

pub returns-clause-answer : goal.returns-clause-answer
returns-clause-answer g c =
    let view : TablesView = record { files = c.self.inside.files; book = c.self.inside.book; groups = c.self.inside.groups; tree = c.self.inside.tree; pairs = c.self.inside.pairs; work = c.self.inside.upkeep; distance = c.self.inside.distance; tags = c.self.inside.tags; services = c.self.inside.services; mappings = c.self.inside.mappings; relations = c.self.inside.relations } in
    let known : has_service (records_of c.args.self.now) c.args.service ≡ true = search rules in
    let there : has_service (records_of view) c.args.service ≡ true = rw (← c.self.view_is) at known in
    let at : slice_get view.tags.texts c.ideal-ideal.result.0 ≡ Some c.in_ok-copied.field-0 = search rules in
    let above : c.in_ok-ancestors.field-0 ≡ map (text_of (records_of view)) (ancestor_numbers (records_of view) c.args.service c.in-Some.tag) = rw (← c.self.view_is) at c.in_ok-ancestors.ensures.texts in
    subst (λ (t : TablesView). Ok (answers.Ideal (record { ideal = c.in_ok-copied.field-0; ancestors = c.in_ok-ancestors.field-0 })) ≡ asked (records_of t) (queries.Ideal c.args.service c.args.text.now)) c.self.view_is
    (ideal_asked view c.args.service c.args.text.now c.in_ok-copied.field-0 c.in_ok-ancestors.field-0 c.in-Some.tag c.ideal-ideal.result there c.in-Some.ensures c.self.invariant.ordered c.ideal-ideal.ensures at above)

use Rattle.std.proofs.Common.{◌≡◌, true, Ok, refl, ap, subst, sym, ◌∙◌}
use Rattle.media_types.specs.declared.file_relations.FileRelations.{FileRelations}
use Rattle.media_base.specs.declared.command.Query.TheVariants as queries
use Rattle.media_base.specs.declared.reply.Answer.TheVariants as answers
use Rattle.library_machine.specs.Asking.{asked}
use Rattle.library_machine.specs.Needs.{has_file}
use Rattle.library_tables.specs.Tables.{TablesView, records_of}
use Rattle.library_tables.proofs.Deciding.{relations_asked}
use Rattle.library_tables.proofs.tables.Tables.tell_relations.Goals as goal

pub returns : goal.returns
returns c =
    let file = c.args.file in
    let there = subst (λ (t : TablesView). has_file (records_of t) file ≡ true) (sym c.self.view_is) (sym c.if-not-has_file.ensures) in
    let inside = c.self.inside in
    let view : TablesView = record { files = inside.files; book = inside.book; groups = inside.groups; tree = inside.tree; pairs = inside.pairs; work = inside.upkeep; distance = inside.distance; tags = inside.tags; services = inside.services; mappings = inside.mappings; relations = inside.relations } in
    let told = c.in_ok-standing.ensures ∙ rw (c.self.invariant.grouped, c.self.invariant.related) refl in
    subst (λ (t : TablesView). Ok (answers.Relations c.in_ok-standing.field-0) ≡ asked (records_of t) (queries.Relations file)) c.self.view_is
    (ap (λ (found : FileRelations). Ok (answers.Relations found)) told ∙ sym (relations_asked (records_of view) file there))

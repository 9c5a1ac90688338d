use Rattle.std.proofs.Common.{ap, subst, sym, ◌∙◌}
use Rattle.tree_upkeep.specs.Queue.{noted}
use Rattle.library_tables.specs.Imports.{LeadsImport}
use Rattle.library_tables.specs.Tables.{TablesView}
use Rattle.library_tables.proofs.Committing.{import_in_step}
use Rattle.library_tables.proofs.tables.Tables.commit_import.Goals as goal

pub invariant_of-self : goal.invariant_of-self
invariant_of-self g c =
    let here = subst (λ (t : TablesView). LeadsImport c.args.plan t c.requires.0) (sym c.self.view_is) c.requires.1 in
    import_in_step _ c.args.plan c.requires.0 c.self.invariant here
    c.commit_import-number.new.self c.add_file.new.self c.add_file-2.new.self c.place_words.new.tree c.note.new.self c.commit_import-number.result
    c.commit_import-number.ensures.rows c.commit_import-number.ensures.words c.commit_import-number.ensures.number
    c.add_file.ensures.rows c.add_file.ensures.files c.add_file-2.ensures.size c.add_file-2.ensures.relations c.place_words.ensures.words
    (rw c.note.ensures.marks c.place_words.ensures.marked) (c.note.ensures.queue ∙ ap (noted c.commit_import-number.result c.args.plan.queued) c.place_words.ensures.queue)

use Rattle.std.proofs.Common.{ap, sym, map, ◌∙◌}
use Rattle.spare_tables.specs.Table.{Table}
use Rattle.tag_store.specs.Lasts.{lasts_from}
use Rattle.tag_store.specs.Mapped.{Row, files_of_tag, numbered_file}
use Rattle.tag_store.proofs.Keeping.{files-last}
use Rattle.tag_store.proofs.LastRows.{lasts_from-0}
use Rattle.tag_store.proofs.mappings.Mappings.walk_tag.Goals as goal

pub returns-clause-files : goal.returns-clause-files
returns-clause-files g c =
    let it = c.self.inside in
    c.new.ensures ∙ ap (map numbered_file) (c.walk_lasts.ensures.rows ∙ ap (λ s. lasts_from s c.args.t.0 0 it.by_tag.rows) c.from.ensures ∙ lasts_from-0 c.args.s.0 c.args.t.0 it.by_tag.rows)
    ∙ sym (files-last it.by_tag.rows c.args.s.0 c.args.t.0)
    ∙ ap (λ (table : Table Row). files_of_tag table.rows c.args.s.0 c.args.t.0) c.self.view_is

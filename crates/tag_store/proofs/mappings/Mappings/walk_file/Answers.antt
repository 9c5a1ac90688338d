use Rattle.std.proofs.Common.{ap, sym, map, ◌∙◌}
use Rattle.spare_tables.specs.Table.{Table}
use Rattle.tag_store.specs.Lasts.{lasts_from}
use Rattle.tag_store.specs.Mapped.{Row, numbered_tag, tags_of_file}
use Rattle.tag_store.proofs.Keeping.{tags-last}
use Rattle.tag_store.proofs.LastRows.{lasts_from-0}
use Rattle.tag_store.proofs.mappings.Mappings.walk_file.Goals as goal

pub returns-clause-tags : goal.returns-clause-tags
returns-clause-tags g c =
    let it = c.self.inside in
    c.new.ensures ∙ ap (map numbered_tag) (c.walk_lasts.ensures.rows ∙ ap (λ s. lasts_from s c.args.f.0 0 it.by_file.rows) c.from.ensures ∙ lasts_from-0 c.args.s.0 c.args.f.0 it.by_file.rows)
    ∙ sym (tags-last it.by_tag.rows it.by_file.rows c.args.s.0 c.args.f.0 c.self.invariant)
    ∙ ap (λ (table : Table Row). tags_of_file table.rows c.args.s.0 c.args.f.0) c.self.view_is

use Rattle.std.proofs.Common.{◌≡◌, ℕ, None, find, sym, ap, ◌∙◌, rules}
use Rattle.std.specs.Option.{option_map}
use Rattle.media_types.specs.declared.numbers.TagNo.{TagNo}
use Rattle.spare_tables.specs.Table.{Table}
use Rattle.tag_types.specs.declared.map_state.MapState.{MapState}
use Rattle.tag_store.specs.Lasts.{is_behind, lasts}
use Rattle.tag_store.specs.Mapped.{Row, first_tag_past, is_past_tag, numbered_tag, tags_of_file}
use Rattle.tag_store.proofs.Keeping.{find-map, tags-last}
use Rattle.tag_store.proofs.LastRows.{find-alike}
use Rattle.tag_store.proofs.mappings.Mappings.of_file.Goals as goal

pub returns-in_err-tag-clause-first : goal.returns-in_err-tag-clause-first
returns-in_err-tag-clause-first g c =
    let it = c.self.inside in
    let list = lasts c.args.s.0 c.args.f.0 it.by_file.rows in
    let none : c.from_residual.result ≡ None = search rules in
    none
    ∙ ap (option_map numbered_tag) (c.in_err-tag.ensures.first ∙ ap (λ s. find (λ (row : ℕ × MapState). is_behind c.place_of_tag-place.result row.0) (lasts s c.args.f.0 it.by_file.rows)) c.from.ensures
    ∙ find-alike (λ (row : ℕ × MapState). is_behind c.place_of_tag-place.result row.0) (λ (row : ℕ × MapState). is_past_tag c.args.after row.0) (λ row. c.place_of_tag-place.ensures row.0) list)
    ∙ sym (find-map numbered_tag (λ (row : TagNo × MapState). is_past_tag c.args.after row.0.0) list)
    ∙ sym (ap (first_tag_past c.args.after) (tags-last it.by_tag.rows it.by_file.rows c.args.s.0 c.args.f.0 c.self.invariant))
    ∙ ap (λ (table : Table Row). first_tag_past c.args.after (tags_of_file table.rows c.args.s.0 c.args.f.0)) c.self.view_is

pub returns-clause-first : goal.returns-clause-first
returns-clause-first g c =
    let it = c.self.inside in
    let list = lasts c.args.s.0 c.args.f.0 it.by_file.rows in
    ap (option_map numbered_tag) (c.in_ok-tag.ensures.first ∙ ap (λ s. find (λ (row : ℕ × MapState). is_behind c.place_of_tag-place.result row.0) (lasts s c.args.f.0 it.by_file.rows)) c.from.ensures
    ∙ find-alike (λ (row : ℕ × MapState). is_behind c.place_of_tag-place.result row.0) (λ (row : ℕ × MapState). is_past_tag c.args.after row.0) (λ row. c.place_of_tag-place.ensures row.0) list)
    ∙ sym (find-map numbered_tag (λ (row : TagNo × MapState). is_past_tag c.args.after row.0.0) list)
    ∙ sym (ap (first_tag_past c.args.after) (tags-last it.by_tag.rows it.by_file.rows c.args.s.0 c.args.f.0 c.self.invariant))
    ∙ ap (λ (table : Table Row). first_tag_past c.args.after (tags_of_file table.rows c.args.s.0 c.args.f.0)) c.self.view_is

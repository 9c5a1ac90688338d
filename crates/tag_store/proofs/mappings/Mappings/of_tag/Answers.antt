use Rattle.std.proofs.Common.{◌≡◌, ℕ, None, find, sym, ap, ◌∙◌, rules}
use Rattle.std.specs.Option.{option_map}
use Rattle.media_types.specs.Numbered.{is_past}
use Rattle.media_types.specs.declared.numbers.FileNo.{FileNo}
use Rattle.spare_tables.specs.Table.{Table}
use Rattle.tag_types.specs.declared.map_state.MapState.{MapState}
use Rattle.tag_store.specs.Lasts.{is_behind, lasts}
use Rattle.tag_store.specs.Mapped.{Row, files_of_tag, first_file_past, numbered_file}
use Rattle.tag_store.proofs.Keeping.{find-map, files-last}
use Rattle.tag_store.proofs.LastRows.{find-alike}
use Rattle.tag_store.proofs.mappings.Mappings.of_tag.Goals as goal

pub returns-in_err-file-clause-first : goal.returns-in_err-file-clause-first
returns-in_err-file-clause-first g c =
    let it = c.self.inside in
    let list = lasts c.args.s.0 c.args.t.0 it.by_tag.rows in
    let none : c.from_residual.result ≡ None = search rules in
    none
    ∙ ap (option_map numbered_file) (c.in_err-file.ensures.first ∙ ap (λ s. find (λ (row : ℕ × MapState). is_behind c.place_of_file-place.result row.0) (lasts s c.args.t.0 it.by_tag.rows)) c.from.ensures
    ∙ find-alike (λ (row : ℕ × MapState). is_behind c.place_of_file-place.result row.0) (λ (row : ℕ × MapState). is_past c.args.after row.0) (λ row. c.place_of_file-place.ensures row.0) list)
    ∙ sym (find-map numbered_file (λ (row : FileNo × MapState). is_past c.args.after row.0.0) list)
    ∙ sym (ap (first_file_past c.args.after) (files-last it.by_tag.rows c.args.s.0 c.args.t.0))
    ∙ ap (λ (table : Table Row). first_file_past c.args.after (files_of_tag table.rows c.args.s.0 c.args.t.0)) c.self.view_is

pub returns-clause-first : goal.returns-clause-first
returns-clause-first g c =
    let it = c.self.inside in
    let list = lasts c.args.s.0 c.args.t.0 it.by_tag.rows in
    ap (option_map numbered_file) (c.in_ok-file.ensures.first ∙ ap (λ s. find (λ (row : ℕ × MapState). is_behind c.place_of_file-place.result row.0) (lasts s c.args.t.0 it.by_tag.rows)) c.from.ensures
    ∙ find-alike (λ (row : ℕ × MapState). is_behind c.place_of_file-place.result row.0) (λ (row : ℕ × MapState). is_past c.args.after row.0) (λ row. c.place_of_file-place.ensures row.0) list)
    ∙ sym (find-map numbered_file (λ (row : FileNo × MapState). is_past c.args.after row.0.0) list)
    ∙ sym (ap (first_file_past c.args.after) (files-last it.by_tag.rows c.args.s.0 c.args.t.0))
    ∙ ap (λ (table : Table Row). first_file_past c.args.after (files_of_tag table.rows c.args.s.0 c.args.t.0)) c.self.view_is

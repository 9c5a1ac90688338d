use Rattle.std.proofs.Common.{◌<◌, length, [], ◌∷◌, ap, sym, ◌∙◌, arith}
use Rattle.file_records.specs.Searching.{searched}
use Rattle.file_records.proofs.Searches.{row_kept, row_written, tables_after}
use Rattle.file_records.proofs.files.Files.set_searched.Goals as goal
use Rattle.file_records.proofs.files.Files.set_searched.Goals.{then-is_short_of, else-is_short_of}

pub invariant_of-self : goal.invariant_of-self
invariant_of-self c =
    let d = c.args.within in
    let file = c.args.file in
    let inside = c.self.inside in
    let rows = inside.rows.items in
    let row = c.index_mut-row.result.now in
    let within : file.0 < length rows = omega (arith, inside.rows.ok.0, c.requires, ap (λ files. length files.rows) c.self.view_is) in
    let at = c.index_mut-row.ensures.value in
    elim c.if-is_short_of.branch [
      | then-is_short_of w ↦ rw w.self-inside-is
          (tables_after inside.index.keys inside.words.keys inside.holders.rows d (file ∷ []) rows _
          (row_written d file rows row within at (sym c.is_short_of.ensures ∙ w.if-is_short_of.true)) c.self.invariant)
      | else-is_short_of w ↦ rw w.self-inside-is
          (tables_after inside.index.keys inside.words.keys inside.holders.rows d (file ∷ []) rows _
          (row_kept d file rows row within at (sym c.is_short_of.ensures ∙ w.if-is_short_of.false)) c.self.invariant)
    ]

pub returns-clause-rows : goal.returns-clause-rows
returns-clause-rows c =
    let d = c.args.within in
    let file = c.args.file in
    let rows = c.self.inside.rows.items in
    let row = c.index_mut-row.result.now in
    let within : file.0 < length rows = omega (arith, c.self.inside.rows.ok.0, c.requires, ap (λ files. length files.rows) c.self.view_is) in
    let at = c.index_mut-row.ensures.value in
    let seen = ap (λ files. searched d (file ∷ []) files.rows) c.self.view_is in
    elim c.if-is_short_of.branch [
      | then-is_short_of w ↦ rw w.self-inside-is (row_written d file rows row within at (sym c.is_short_of.ensures ∙ w.if-is_short_of.true) ∙ seen)
      | else-is_short_of w ↦ rw w.self-inside-is (row_kept d file rows row within at (sym c.is_short_of.ensures ∙ w.if-is_short_of.false) ∙ seen)
    ]

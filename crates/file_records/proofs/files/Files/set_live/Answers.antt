use Rattle.std.proofs.Common.{◌<◌, length, ap, ◌∙◌, arith}
use Rattle.file_records.specs.Living.{with_live_mark}
use Rattle.file_records.proofs.Marks.{mark_written, tables_after}
use Rattle.file_records.proofs.files.Files.set_live.Goals as goal

pub invariant_of-self : goal.invariant_of-self
invariant_of-self c =
    let n = c.args.file.0 in
    let live = c.args.live in
    let inside = c.self.inside in
    let rows = inside.rows.items in
    let within : n < length rows = omega (arith, inside.rows.ok.0, c.requires, ap (λ files. length files.rows) c.self.view_is) in
    tables_after inside.index.keys inside.words.keys inside.holders.rows n live rows _
    (mark_written n live rows c.index_mut.result.now within c.index_mut.ensures.value) c.self.invariant

pub returns-clause-rows : goal.returns-clause-rows
returns-clause-rows c =
    let n = c.args.file.0 in
    let live = c.args.live in
    let rows = c.self.inside.rows.items in
    let within : n < length rows = omega (arith, c.self.inside.rows.ok.0, c.requires, ap (λ files. length files.rows) c.self.view_is) in
    mark_written n live rows c.index_mut.result.now within c.index_mut.ensures.value
    ∙ ap (λ files. with_live_mark n live files.rows) c.self.view_is

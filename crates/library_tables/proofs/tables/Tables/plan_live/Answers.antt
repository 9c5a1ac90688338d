use Rattle.std.proofs.Common.{◌≡◌, ◌&&◌, ◌∙◌}
use Rattle.file_records.specs.Searching.{passes, wants_search}
use Rattle.library_tables.specs.Tables.{TablesView}
use Rattle.library_tables.proofs.Marking.{live_prepared, other_mark, pairs_marked, told_deleted, told_live}
use Rattle.library_tables.proofs.tables.Tables.plan_live.Goals.{then-live, else-live}
use Rattle.library_tables.proofs.tables.Tables.plan_live.Goals as goal

pub returns-clause-prepared : goal.returns-clause-prepared
returns-clause-prepared g c =
    let file = c.args.file in
    let live = c.args.live in
    let old = c.self.inside in
    let queued = c.if-live.queued in
    let new : TablesView = record { files = old.files; book = old.book; groups = old.groups; tree = old.tree; pairs = c.plan_live.new.self; work = c.reserve.new.self; distance = old.distance; tags = old.tags; services = old.services; mappings = old.mappings; relations = old.relations } in
    let told : (live && passes (wants_search old.distance) old.files.rows file.0) ≡ queued = elim c.if-live.branch [
      | then-live w ↦ told_live live _ queued w.if-live.true (w.queued-is ∙ w.wants_search-queued.ensures.wants)
      | else-live w ↦ told_deleted live _ queued w.if-live.false w.queued-is
    ] in
    live_prepared new (record { file = file; live = live; queued = queued; pairs = c.in_ok-pairs.pairs }) c.row.result.now c.self.invariant.fits c.row.ensures.row
    (other_mark _ _ c.if-row-live.false) told c.in_ok-reserve.ensures.ok
    (pairs_marked _ _ file live _ old.pairs c.plan_live.new.self c.in_ok-pairs.pairs c.row.ensures.row c.self.invariant.paired
    c.in_ok-pairs.ensures.room c.in_ok-pairs.ensures.near c.in_ok-pairs.ensures.gone c.in_ok-pairs.ensures.of_after)

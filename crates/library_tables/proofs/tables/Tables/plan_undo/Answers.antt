use Rattle.std.proofs.Common.{◌≡◌, length, arith, ◌∙◌}
use Rattle.std.proofs.lemmas.List.FromFn.{length-map-range_with_len}
use Rattle.decision_book.specs.Recorded.{undone_at}
use Rattle.decision_book.specs.Standing.{standing}
use Rattle.decision_book.specs.DecisionLaws.{few_stand, undoing_keeps_length}
use Rattle.relation_groups.specs.SoundLaws.{relations-sound}
use Rattle.relation_groups.specs.Reading.{relations_after}
use Rattle.relation_groups.specs.Relations.{relations}
use Rattle.library_tables.specs.Tables.{TablesView}
use Rattle.library_tables.proofs.Committing.{pairs_moved}
use Rattle.library_tables.proofs.Deciding.{sound_here, undo_prepared}
use Rattle.library_tables.proofs.Refolding.{file_of, files_known, all_within, all_split, all_anew, standing_among, left_among, left_of_two}
use Rattle.library_tables.proofs.tables.Tables.plan_undo.Goals as goal

pub plan_refold-requires-clause-known : goal.plan_refold-requires-clause-known
plan_refold-requires-clause-known g c =
    let m = length c.self.inside.files.rows in
    rw (c.in_ok-files.ensures, c.len-2.ensures.rows, c.self.invariant.grouped) (files_known m m (omega arith))

pub plan_refold-requires-clause-few_files : goal.plan_refold-requires-clause-few_files
plan_refold-requires-clause-few_files g c =
    rw (c.in_ok-files.ensures, length-map-range_with_len file_of 0 c.len-2.result) c.len-2.ensures.few

pub plan_refold-requires-clause-few_decisions : goal.plan_refold-requires-clause-few_decisions
plan_refold-requires-clause-few_decisions g c =
    let few = few_stand (undone_at c.args.number.0 c.self.inside.book.rows) in
    let same = undoing_keeps_length c.args.number.0 c.self.inside.book.rows in
    rw c.in_ok-standing.ensures.decisions (omega (arith, few, same, c.self.invariant.fits.few_decisions))

pub plan_refold-requires-clause-two : goal.plan_refold-requires-clause-two
plan_refold-requires-clause-two g c =
    rw c.in_ok-standing.ensures.decisions
    (left_of_two c.args.number.0 c.self.inside.book.rows c.self.invariant.fits.of_two)

pub plan_refold-requires-clause-within : goal.plan_refold-requires-clause-within
plan_refold-requires-clause-within g c =
    let m = length c.self.inside.files.rows in
    rw (c.in_ok-files.ensures, c.len-2.ensures.rows, c.in_ok-standing.ensures.decisions)
    (all_within m _ (left_among c.args.number.0 m c.self.inside.book.rows c.self.invariant.fits.among))

pub plan_refold-requires-clause-closed : goal.plan_refold-requires-clause-closed
plan_refold-requires-clause-closed g c =
    let m = length c.self.inside.files.rows in
    rw (c.in_ok-files.ensures, c.len-2.ensures.rows, c.self.invariant.related)
    (all_split m _ (standing_among m c.self.inside.book.rows c.self.invariant.fits.among))

pub plan_moved-requires-clause-sound : goal.plan_moved-requires-clause-sound
plan_moved-requires-clause-sound g c = sound_here _ _ c.self.invariant c.plan_refold.ensures.same

pub plan_moved-requires-clause-sound_after : goal.plan_moved-requires-clause-sound_after
plan_moved-requires-clause-sound_after g c =
    let n = c.args.number in
    let m = length c.self.inside.files.rows in
    let rows = c.self.inside.book.rows in
    let among = c.self.invariant.fits.among in
    let anew : relations_after c.in_ok-groups.groups c.plan_refold.new.self ≡ relations (standing (undone_at n.0 rows)) =
    c.in_ok-groups.ensures.after
    ∙ rw (c.in_ok-files.ensures, c.len-2.ensures.rows, c.in_ok-standing.ensures.decisions, c.self.invariant.related)
    (all_anew m _ _ (standing_among m rows among) (left_among n.0 m rows among)) in
    rw anew (relations-sound _ (left_of_two n.0 rows c.self.invariant.fits.of_two))

pub returns-clause-prepared : goal.returns-clause-prepared
returns-clause-prepared g c =
    let n = c.args.number in
    let m = length c.self.inside.files.rows in
    let rows = c.self.inside.book.rows in
    let among = c.self.invariant.fits.among in
    let new : TablesView = record { files = c.self.inside.files; book = c.self.inside.book; groups = c.plan_refold.new.self; tree = c.self.inside.tree; pairs = c.plan_moved.new.self; work = c.self.inside.upkeep; distance = c.self.inside.distance; tags = c.self.inside.tags; services = c.self.inside.services; mappings = c.self.inside.mappings; relations = c.self.inside.relations } in
    let anew : relations_after c.in_ok-groups.groups c.plan_refold.new.self ≡ relations (standing (undone_at n.0 rows)) =
    c.in_ok-groups.ensures.after
    ∙ rw (c.in_ok-files.ensures, c.len-2.ensures.rows, c.in_ok-standing.ensures.decisions, c.self.invariant.related)
    (all_anew m _ _ (standing_among m rows among) (left_among n.0 m rows among)) in
    undo_prepared new (record { number = n; groups = c.in_ok-groups.groups; pairs = c.in_ok-pairs.pairs }) c.row.result c.self.invariant.fits
    c.row.ensures.row c.if-row.false c.in_ok-groups.ensures.fits anew
    (pairs_moved _ _ _ c.self.inside.pairs c.plan_moved.new.self c.in_ok-pairs.pairs c.self.invariant.paired c.in_ok-pairs.ensures.room c.in_ok-pairs.ensures.near c.in_ok-pairs.ensures.gone c.in_ok-pairs.ensures.of_after)

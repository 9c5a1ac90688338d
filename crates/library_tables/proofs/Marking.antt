-- What is prepared for a deletion, or its taking back, is what it comes to.
use Rattle.std.proofs.Common.{◌≡◌, ◌≤◌, ◌&&◌, ℕ, Bool, true, false, not, Some, Ok, List, slice_get, refl, ap, sym, ◌∙◌}
use Rattle.std.proofs.Math.Bool.{beq}
use Rattle.std.proofs.lemmas.Bool.{lt-ltb}
use Rattle.std.proofs.lemmas.Option.{slice_get_within}
use Rattle.media_types.specs.declared.numbers.FileNo.{FileNo}
use Rattle.media_base.specs.declared.change.Change.TheVariants as changes
use Rattle.media_base.specs.declared.reply.Answer.TheVariants as answers
use Rattle.file_records.specs.declared.file_row.FileRow.{FileRow}
use Rattle.file_records.specs.Living.{is_live, with_live_mark}
use Rattle.file_records.specs.MarkLaws as marks
use Rattle.file_records.specs.Searching.{passes, wants_search}
use Rattle.relation_groups.specs.Reading.{relations_in}
use Rattle.relation_groups.specs.Relations.{Relations}
use Rattle.potential_pairs.specs.Planning.{PlanView, room_of, with_live}
use Rattle.potential_pairs.specs.Planning.{after as pairs_after}
use Rattle.potential_pairs.specs.Potential.{AreOf, KeptPairs}
use Rattle.library_machine.specs.Changing.{answer_to, does, is_idle, is_marked, needs}
use Rattle.library_machine.specs.Effects.{effect}
use Rattle.library_machine.specs.GoodLaws.{changes_keep_fit}
use Rattle.library_machine.specs.Needs.{has_file}
use Rattle.library_machine.specs.Records.{Records, Fits}
use Rattle.library_tables.specs.declared.deletion.PlannedLive.{PlannedLive}
use Rattle.library_tables.specs.declared.plan.Prepared.TheVariants as prepared
use Rattle.library_tables.specs.declared.plan.TablesPlan.TheVariants as plans
use Rattle.library_tables.specs.Pairs.{LeadsPairs}
use Rattle.library_tables.specs.Preparing.{IsPrepared}
use Rattle.library_tables.specs.Tables.{TablesView, ArePairsOf, records_of}

-- ---- a file whose mark is another one
pub other_mark : (a b : Bool) → beq a b ≡ false → a ≡ not b
other_mark true true e = absurd (cc e)
other_mark true false e = refl
other_mark false true e = refl
other_mark false false e = absurd (cc e)

live_by_row : (rows : List FileRow) (k : ℕ) (row : FileRow) → slice_get rows k ≡ Some row → is_live rows k ≡ row.live
live_by_row rows k row at = rw at refl

not_marked : (r : Records) (file : FileNo) (live : Bool) → is_live r.files file.0 ≡ not live → is_marked r file live ≡ false
not_marked r file true is = is
not_marked r file false is = ap not is

live_does : (r : Records) (file : FileNo) (live : Bool) → has_file r file ≡ true → is_marked r file live ≡ false → does r (changes.Live file live) ≡ Ok false
unfolding needs is_idle
live_does r file live there other = rw there (ap Ok other)

live_tells : (r : Records) (file : FileNo) (live : Bool) → is_marked r file live ≡ false → answer_to r (changes.Live file live) ≡ answers.Changed true
unfolding answer_to
live_tells r file live other = ap (λ (marked : Bool). answers.Changed (not marked)) other

live_leads : (r : Records) (file : FileNo) (live : Bool) → effect r (changes.Live file live) ≡ record r { files = with_live_mark file.0 live r.files }
unfolding effect
live_leads r file live = refl

-- ---- what is prepared
-- whether a file is to be searched once it is marked
pub told_live : (live wants queued : Bool) → live ≡ true → queued ≡ wants → (live && wants) ≡ queued
told_live live wants queued is told = rw is (sym told)

pub told_deleted : (live wants queued : Bool) → live ≡ false → queued ≡ live → (live && wants) ≡ queued
told_deleted live wants queued is told = rw is (sym (told ∙ is))

-- once it is planned that a file is deleted, or live again, the pairs can be those of the rows after it
pub pairs_marked : (R : Relations) (rows : List FileRow) (file : FileNo) (live : Bool) (row : FileRow) (old new : KeptPairs) (plan : PlanView) →
    slice_get rows file.0 ≡ Some row → ArePairsOf R rows old.rows →
    room_of plan ≤ new.spare → (pairs_after plan new.rows).near ≡ old.rows.near →
    (pairs_after plan new.rows).gone ≡ with_live (Some (file, live)) old.rows.gone →
    AreOf R (pairs_after plan new.rows) → LeadsPairs plan R (with_live_mark file.0 live rows) new
pairs_marked R rows file live row old new plan at step room near gone of = record {
  room = room;
  paired = record {
    near = near ∙ step.near ∙ sym (marks.near file.0 live rows);
    gone = gone ∙ ap (with_live (Some (file, live))) step.gone ∙ sym (marks.deleted_after file.0 live rows (slice_get_within rows file.0 row at));
    of = of;
  };
}

pub live_prepared : (t : TablesView) (plan : PlannedLive) (row : FileRow) → Fits (records_of t) →
    slice_get t.files.rows plan.file.0 ≡ Some row → row.live ≡ not plan.live →
    (plan.live && passes (wants_search t.distance) t.files.rows plan.file.0) ≡ plan.queued → 1 ≤ t.work.spare →
    LeadsPairs plan.pairs (relations_in t.groups) (with_live_mark plan.file.0 plan.live t.files.rows) t.pairs →
    IsPrepared (changes.Live plan.file plan.live) t (prepared.Ready (plans.Live plan) (answers.Changed true))
live_prepared t plan row fits at differs told room paired =
    let r = records_of t in
    let known = slice_get_within t.files.rows plan.file.0 row at in
    let other = not_marked r plan.file plan.live (live_by_row t.files.rows plan.file.0 row at ∙ differs) in
    let done = live_does r plan.file plan.live (lt-ltb _ _ known) other in (
      done,
      live_tells r plan.file plan.live other,
      record {
        known = known;
        told = told;
        queue_room = room;
        paired = paired;
        fits = changes_keep_fit r (changes.Live plan.file plan.live) done fits;
        leads = live_leads r plan.file plan.live;
      },
      refl,
    )

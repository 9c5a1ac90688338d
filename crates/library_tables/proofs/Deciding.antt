-- What is prepared for a decision and an undoing is what they come to, and relations are told as they are.
use Rattle.std.proofs.Common.{◌≡◌, ◌≤◌, ℕ, true, false, nat_lt, ◌==◌, ◌&&◌, Some, Ok, List, [], ◌∷◌, ◌++◌, length, slice_get, refl, ap, subst, sym, ◌∙◌}
use Rattle.std.proofs.lemmas.Bool.{ltb-true, lt-ltb, eqb-false, and_parts}
use Rattle.std.proofs.lemmas.Option.{same_Some, slice_get_within}
use Rattle.media_types.specs.declared.decision.Decision.{Decision}
use Rattle.media_types.specs.declared.file_relations.FileRelations.{FileRelations}
use Rattle.media_types.specs.declared.limits.TheConstants.{MAX_DECISIONS}
use Rattle.media_types.specs.declared.numbers.DecisionNo.{DecisionNo}
use Rattle.media_types.specs.declared.numbers.FileNo.{FileNo}
use Rattle.media_base.specs.declared.change.Change.TheVariants as changes
use Rattle.media_base.specs.declared.command.Query.TheVariants as queries
use Rattle.media_base.specs.declared.reply.Answer.TheVariants as answers
use Rattle.decision_book.specs.declared.decision_row.DecisionRow.{DecisionRow}
use Rattle.decision_book.specs.Recorded.{undone_at}
use Rattle.decision_book.specs.Standing as book
use Rattle.decision_book.specs.DecisionLaws.{one_more}
use Rattle.relation_groups.specs.FoldLaws.{after-push}
use Rattle.relation_groups.specs.Laws.{AreSound}
use Rattle.relation_groups.specs.Reading.{Kept, IsPlanFor, Planned, relations_after, relations_in}
use Rattle.relation_groups.specs.SoundLaws.{relations-sound}
use Rattle.relation_groups.specs.Relations.{by_code, decided, relations, relations_at, standing_of}
use Rattle.library_machine.specs.Asking.{asked, answer, query_needs}
use Rattle.library_machine.specs.Changing.{answer_to, does, is_idle, needs}
use Rattle.library_machine.specs.Effects.{effect}
use Rattle.library_machine.specs.GoodLaws.{changes_keep_fit}
use Rattle.library_machine.specs.Needs.{has_file}
use Rattle.library_machine.specs.Records.{Records, Fits}
use Rattle.library_tables.specs.declared.decisions.PlannedDecision.{PlannedDecision}
use Rattle.library_tables.specs.declared.decisions.PlannedUndo.{PlannedUndo}
use Rattle.library_tables.specs.declared.plan.Prepared.TheVariants as prepared
use Rattle.library_tables.specs.declared.plan.TablesPlan.TheVariants as plans
use Rattle.library_tables.specs.Pairs.{LeadsPairs}
use Rattle.library_tables.specs.Preparing.{IsPrepared}
use Rattle.library_tables.specs.Tables.{TablesView, AreInStep, records_of}
use Rattle.library_tables.proofs.Refolding.{standing_of_two}

-- ---- decisions

-- a decision of two files that are there, where there is room
pub record CanDecide (r : Records) (d : Decision) : Type 0 where
  pub there : (has_file r d.a && has_file r d.b) ≡ true
  pub two : (d.a.0 == d.b.0) ≡ false
  pub few : nat_lt (length r.decisions) MAX_DECISIONS ≡ true

decide_does : (r : Records) (d : Decision) → CanDecide r d → does r (changes.Decision d) ≡ Ok false
unfolding needs is_idle
decide_does r d can = let both = and_parts (has_file r d.a) (has_file r d.b) can.there in rw (both.0, both.1, can.two, can.few) refl

decide_tells : (r : Records) (d : Decision) → answer_to r (changes.Decision d) ≡ answers.Decided (record { 0 = length r.decisions })
unfolding answer_to
decide_tells r d = refl

decide_leads : (r : Records) (d : Decision) → effect r (changes.Decision d) ≡ record r { decisions = r.decisions ++ book.row_of d ∷ [] }
unfolding effect
decide_leads r d = refl

-- one more decision makes the relations that all standing ones make
pub decided_related : (t : TablesView) (groups : Kept) (d : Decision) (plan : Planned) → AreInStep t →
    relations_after plan groups ≡ by_code d.code d.a.0 d.b.0 (relations_in t.groups) →
    relations_after plan groups ≡ relations (book.standing (t.book.rows ++ book.row_of d ∷ []))
decided_related t groups d plan step related =
    related ∙ ap (decided d) step.related ∙ sym (after-push _ (book.standing t.book.rows) d) ∙ ap relations (sym (one_more t.book.rows d))

pub sound_here : (t : TablesView) (groups : Kept) → AreInStep t → groups ≡ t.groups → AreSound (relations_in groups)
sound_here t groups step same = rw (same, step.related) (relations-sound _ (standing_of_two t.book.rows step.fits.of_two))

decide_fits : (r : Records) (d : Decision) → CanDecide r d → Fits r → Fits (record r { decisions = r.decisions ++ book.row_of d ∷ [] })
decide_fits r d can fits = subst Fits (decide_leads r d) (changes_keep_fit r (changes.Decision d) (decide_does r d can) fits)

pub sound_decided : (t : TablesView) (groups : Kept) (d : Decision) (plan : Planned) →
    AreInStep t → CanDecide (records_of t) d →
    relations_after plan groups ≡ by_code d.code d.a.0 d.b.0 (relations_in t.groups) → AreSound (relations_after plan groups)
sound_decided t groups d plan step can related =
    let fits = decide_fits (records_of t) d can step.fits in
    rw (decided_related t groups d plan step related) (relations-sound _ (standing_of_two _ fits.of_two))

pub decide_prepared : (t : TablesView) (plan : PlannedDecision) (count : ℕ) → Fits (records_of t) → CanDecide (records_of t) plan.decision →
    count ≡ length t.book.rows → 1 ≤ t.book.spare → IsPlanFor plan.groups t.groups →
    relations_after plan.groups t.groups ≡ relations (book.standing (t.book.rows ++ book.row_of plan.decision ∷ [])) →
    LeadsPairs plan.pairs (relations_after plan.groups t.groups) t.files.rows t.pairs →
    IsPrepared (changes.Decision plan.decision) t (prepared.Ready (plans.Decide plan) (answers.Decided (record { 0 = count })))
decide_prepared t plan count fits can is room planned related paired =
    let r = records_of t in
    let d = plan.decision in
    let both = and_parts (has_file r d.a) (has_file r d.b) can.there in
    let done = decide_does r d can in (
      done,
      decide_tells r d ∙ ap (λ (n : ℕ). answers.Decided (record { 0 = n })) (sym is),
      record {
        known = (ltb-true _ _ both.0, ltb-true _ _ both.1);
        two = eqb-false _ _ can.two;
        few = ltb-true _ _ can.few;
        room = room;
        planned = planned;
        related = related;
        paired = paired;
        fits = changes_keep_fit r (changes.Decision d) done fits;
        leads = decide_leads r d;
      },
      refl,
    )

-- ---- undoings

undo_does : (r : Records) (n : DecisionNo) (row : DecisionRow) → nat_lt n.0 (length r.decisions) ≡ true →
    slice_get r.decisions n.0 ≡ Some row → row.undone ≡ false → does r (changes.Undo n) ≡ Ok false
unfolding needs is_idle
undo_does r n row there at stands = rw (there, at, stands) refl

undo_tells : (r : Records) (n : DecisionNo) → answer_to r (changes.Undo n) ≡ answers.Undone n
unfolding answer_to
undo_tells r n = refl

undo_leads : (r : Records) (n : DecisionNo) → effect r (changes.Undo n) ≡ record r { decisions = undone_at n.0 r.decisions }
unfolding effect
undo_leads r n = refl

pub undo_prepared : (t : TablesView) (plan : PlannedUndo) (row : DecisionRow) → Fits (records_of t) →
    slice_get t.book.rows plan.number.0 ≡ Some row → row.undone ≡ false →
    IsPlanFor plan.groups t.groups → relations_after plan.groups t.groups ≡ relations (book.standing (undone_at plan.number.0 t.book.rows)) →
    LeadsPairs plan.pairs (relations_after plan.groups t.groups) t.files.rows t.pairs →
    IsPrepared (changes.Undo plan.number) t (prepared.Ready (plans.Undo plan) (answers.Undone plan.number))
undo_prepared t plan row fits at stands planned related paired =
    let r = records_of t in
    let n = plan.number in
    let known = slice_get_within t.book.rows n.0 row at in
    let done = undo_does r n row (lt-ltb _ _ known) at stands in (
      done,
      undo_tells r n,
      record {
        known = known;
        stands = λ other is. ap (λ (row : DecisionRow). row.undone) (same_Some _ _ (sym is ∙ at)) ∙ stands;
        planned = planned;
        related = related;
        paired = paired;
        fits = changes_keep_fit r (changes.Undo n) done fits;
        leads = undo_leads r n;
      },
      refl,
    )

-- ---- relations

relations_are : (n : ℕ) (ds : List Decision) (file : FileNo) → relations_at n ds file ≡ standing_of n (relations ds) file
unfolding relations_at
relations_are n ds file = refl

pub relations_asked : (r : Records) (file : FileNo) → has_file r file ≡ true →
    asked r (queries.Relations file) ≡ Ok (answers.Relations (standing_of (length r.files) (relations (book.standing r.decisions)) file))
unfolding query_needs answer
relations_asked r file there = rw there (ap (λ (found : FileRelations). Ok (answers.Relations found)) (relations_are (length r.files) (book.standing r.decisions) file))

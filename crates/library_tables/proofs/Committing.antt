-- The tables stay in step when a planned change is made.
use Rattle.std.proofs.Common.{◌≡◌, ◌<◌, ◌+◌, ◌≤◌, ℕ, Bool, if◌then◌else◌, List, [], ◌∷◌, ◌++◌, length, length-append, refl, arith, ap, subst, sym, ◌∙◌}
use Rattle.std.specs.List.{All}
use Rattle.media_types.specs.declared.hash.Hash64.{Hash64}
use Rattle.media_types.specs.declared.numbers.FileNo.{FileNo}
use Rattle.spare_tables.specs.Table.{Table}
use Rattle.file_records.specs.declared.file_row.FileRow.{FileRow}
use Rattle.file_records.specs.NearLaws as near
use Rattle.file_records.specs.QueueLaws.{queue_known, queue_one_more}
use Rattle.file_records.specs.Near.{near_pairs}
use Rattle.file_records.specs.Living.{deleted}
use Rattle.file_records.specs.Searching.{is_queued, queue_of}
use Rattle.file_records.specs.Words.{words_of}
use Rattle.decision_book.specs.Recorded.{Recorded}
use Rattle.relation_groups.specs.Reading.{Kept, relations_in, size_of}
use Rattle.relation_groups.specs.Relations.{Relations}
use Rattle.spare_tables.specs.Pairs.{pairs_below}
use Rattle.potential_pairs.specs.Planning.{PlanView, room_of}
use Rattle.potential_pairs.specs.Planning.{after as pairs_after}
use Rattle.potential_pairs.specs.Potential.{AreOf}
use Rattle.potential_pairs.specs.Potential.{KeptPairs}
use Rattle.vp_tree.specs.declared.node.NodeView.{NodeView}
use Rattle.vp_tree.specs.Nodes.{words_in}
use Rattle.tree_upkeep.specs.Marks.{AreNodes}
use Rattle.tree_upkeep.specs.EndLaws.{at_end}
use Rattle.tree_upkeep.specs.Queue.{Work, noted}
use Rattle.library_machine.specs.Records.{Records, Fits}
use Rattle.library_tables.specs.declared.imports.PlannedImport.{PlannedImport}
use Rattle.library_tables.specs.Imports.{LeadsImport, words_planned}
use Rattle.library_tables.specs.Pairs.{LeadsPairs}
use Rattle.library_tables.specs.Tables.{TablesView, AreInStep, ArePairsOf}

-- a new file is noted as what it is
queue_with : (d : ℕ) (row : FileRow) (rows : List FileRow) (queued : Bool) (number : FileNo) →
    is_queued d row ≡ queued → number.0 ≡ length rows → noted number queued (queue_of d rows) ≡ queue_of d (rows ++ row ∷ [])
queue_with d row rows queued number told is =
    let below : All (λ f. f.0 < number.0) (queue_of d rows) = rw is (queue_known d rows) in
    let same : number ≡ record { 0 = length rows } = ap (λ (n : ℕ). record { 0 = n }) is in
    at_end number queued (queue_of d rows) below
    ∙ ap (λ (f : FileNo). queue_of d rows ++ (if queued then f ∷ [] else [])) same
    ∙ ap (λ (b : Bool). queue_of d rows ++ (if b then (record { 0 = length rows }) ∷ [] else [])) (sym told)
    ∙ sym (queue_one_more d row rows)

pub import_in_step : (t : TablesView) (plan : PlannedImport) (after : Records) →
    AreInStep t → LeadsImport plan t after →
    (files : Table FileRow) (book : Recorded) (groups : Kept) (tree : Table NodeView) (work : Work) (number : FileNo) →
    files.rows ≡ t.files.rows ++ plan.file.row ∷ [] → words_of files.rows ≡ words_of t.files.rows ++ plan.file.words → number.0 ≡ length t.files.rows →
    book.rows ≡ t.book.rows → book.files ≡ t.book.files + 1 →
    size_of groups ≡ size_of t.groups + 1 → relations_in groups ≡ relations_in t.groups →
    words_in tree.rows ≡ words_in t.tree.rows ++ words_planned plan.words.items → AreNodes tree.rows work.marks → work.queue ≡ noted number plan.queued t.work.queue →
    AreInStep (record t { files = files; book = book; groups = groups; tree = tree; work = work })
import_in_step t plan after step leads files book groups tree work number rows words is same_book one_more size related placed marked noted_is = record {
  fits = subst Fits (leads.leads ∙ rw (rows, same_book) refl) leads.fits;
  decided = one_more ∙ rw rows (omega (arith, step.decided, length-append t.files.rows));
  grouped = size ∙ rw rows (omega (arith, step.grouped, length-append t.files.rows));
  related = related ∙ step.related ∙ rw same_book refl;
  words =
      placed ∙ ap (λ (ws : List Hash64). ws ++ words_planned plan.words.items) step.words
      ∙ ap (λ (ws : List Hash64). words_of t.files.rows ++ ws) leads.words ∙ sym words;
  marked = marked;
  paired = record {
    near = step.paired.near ∙ sym (near.one_more plan.file.row t.files.rows leads.unsearched) ∙ ap near_pairs (sym rows);
    gone = step.paired.gone ∙ sym (near.live_more plan.file.row t.files.rows leads.live) ∙ ap deleted (sym rows);
    of = subst (λ (R : Relations). AreOf R t.pairs.rows) (sym related) step.paired.of;
  };
  queued =
      noted_is ∙ ap (noted number plan.queued) step.queued ∙ queue_with t.distance plan.file.row t.files.rows plan.queued number leads.told is
      ∙ ap (queue_of t.distance) (sym rows);
  ordered = step.ordered;
  parents_ordered = step.parents_ordered;
}

-- without files there are no words, none is near, and none waits
pub no_near : near_pairs [] ≡ []
unfolding pairs_below
no_near = refl

pub no_words : words_of [] ≡ []
unfolding words_of
no_words = refl

pub no_queue : (d : ℕ) → queue_of d [] ≡ []
unfolding queue_of
no_queue d = refl

-- once the pairs are planned for groups that change, they can be those of the groups after the change
pub pairs_moved : (R Q : Relations) (rows : List FileRow) (old new : KeptPairs) (plan : PlanView) → ArePairsOf R rows old.rows →
    room_of plan ≤ new.spare → (pairs_after plan new.rows).near ≡ old.rows.near → (pairs_after plan new.rows).gone ≡ old.rows.gone →
    AreOf Q (pairs_after plan new.rows) → LeadsPairs plan Q rows new
pairs_moved R Q rows old new plan step room near gone of = record {
  room = room;
  paired = record { near = near ∙ step.near; gone = gone ∙ step.gone; of = of };
}

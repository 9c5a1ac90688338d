-- What is prepared for an import is what it comes to.
use Rattle.std.proofs.Common.{◌≡◌, ◌≤◌, ℕ, Bool, true, false, nat_lt, ◌==◌, ◌&&◌, None, Ok, [], ◌∷◌, ◌++◌, length, not, refl, arith, ap, sym, ◌∙◌}
use Rattle.std.proofs.lemmas.Bool.{lt-ltb, eqb-true, eqb-false}
use Rattle.media_types.specs.declared.limits.TheConstants.{MAX_FILES}
use Rattle.media_types.specs.declared.new_file.NewFile.{NewFile}
use Rattle.media_base.specs.declared.change.Change.TheVariants as changes
use Rattle.media_base.specs.declared.reply.Answer.TheVariants as answers
use Rattle.media_base.specs.declared.reply.ImportStatus.TheVariants as imports
use Rattle.file_records.specs.Importing.{IsPlannedFor}
use Rattle.file_records.specs.Lookup.{file_with}
use Rattle.file_records.specs.Rows.{row_of}
use Rattle.file_records.specs.Searching.{is_queued}
use Rattle.file_records.specs.Words.{new_words, words_of}
use Rattle.file_records.specs.declared.file_row.FileRow.{FileRow}
use Rattle.library_machine.specs.Changing.{answer_to, does, is_idle, needs}
use Rattle.library_machine.specs.Effects.{effect}
use Rattle.library_machine.specs.GoodLaws.{changes_keep_fit}
use Rattle.library_machine.specs.Records.{Records, Fits}
use Rattle.library_tables.specs.declared.imports.PlannedImport.{PlannedImport}
use Rattle.library_tables.specs.declared.plan.Prepared.TheVariants as prepared
use Rattle.library_tables.specs.declared.plan.TablesPlan.TheVariants as plans
use Rattle.library_tables.specs.Imports.{words_planned}
use Rattle.library_tables.specs.Preparing.{IsPrepared}
use Rattle.library_tables.specs.Tables.{TablesView, records_of}

-- a new file, where there is room
import_does : (r : Records) (file : NewFile) → file_with file.sha r.files ≡ None → nat_lt (length r.files) MAX_FILES ≡ true →
    does r (changes.File file) ≡ Ok false
unfolding needs is_idle
import_does r file new room = rw (new, room) refl

import_tells : (r : Records) (file : NewFile) → file_with file.sha r.files ≡ None →
    answer_to r (changes.File file) ≡ answers.Imported (record { file = record { 0 = length r.files }; status = imports.New })
unfolding answer_to
import_tells r file new = rw new refl

import_leads : (r : Records) (file : NewFile) → effect r (changes.File file) ≡ record r { files = r.files ++ row_of file ∷ [] }
unfolding effect
import_leads r file = refl

-- a new file is live and was never searched, so it waits where it has a hash
new_queued : (has_hash : Bool) → (true && (has_hash && true)) ≡ has_hash
new_queued true = refl
new_queued false = refl

pub import_prepared : (t : TablesView) (file : NewFile) (plan : PlannedImport) (count : ℕ) → Fits (records_of t) →
    file_with file.sha t.files.rows ≡ None → nat_lt (length t.files.rows) MAX_FILES ≡ true → count ≡ length t.files.rows →
    1 ≤ t.book.spare → 1 ≤ t.groups.spare → 1 ≤ t.work.spare → length plan.file.words ≤ t.work.mark_spare →
    plan.file.row ≡ row_of file → IsPlannedFor plan.file t.files →
    words_planned plan.words.items ≡ plan.file.words → length plan.file.words ≤ t.tree.spare → nat_lt 0 (length file.hashes) ≡ plan.queued →
    IsPrepared (changes.File file) t (prepared.Ready (plans.Import plan) (answers.Imported (record { file = record { 0 = count }; status = imports.New })))
import_prepared t file plan count fits new room is book_room group_room queue_room mark_room is_row planned words tree_room hashes =
    let r = records_of t in
    let done = import_does r file new room in (
      done,
      import_tells r file new ∙ ap (λ (n : ℕ). answers.Imported (record { file = record { 0 = n }; status = imports.New })) (sym is),
      record {
        planned = planned;
        book_room = book_room;
        group_room = group_room;
        words = words;
        tree_room = tree_room;
        unsearched = ap (λ (row : FileRow). row.searched) is_row;
        live = ap (λ (row : FileRow). row.live) is_row;
        told = ap (is_queued t.distance) is_row ∙ new_queued (nat_lt 0 (length file.hashes)) ∙ hashes;
        queue_room = queue_room;
        mark_room = mark_room;
        fits = changes_keep_fit r (changes.File file) done fits;
        leads = import_leads r file ∙ ap (λ (row : FileRow). record r { files = r.files ++ row ∷ [] }) (sym is_row);
      },
      words ∙ planned.words ∙ ap (λ (row : FileRow). new_words (words_of t.files.rows) row.hashes) is_row,
    )

-- a list has an element exactly where its length isn't 0
some_by : (n : ℕ) (none : Bool) → (n == 0) ≡ none → nat_lt 0 n ≡ not none
some_by n true is = ap (nat_lt 0) (eqb-true n 0 is)
some_by n false is = let some = eqb-false n 0 is in lt-ltb 0 n (omega (arith, some))

pub has_some : (n : ℕ) (none : Bool) → none ≡ (n == 0) → nat_lt 0 n ≡ not none
has_some n none is = some_by n none (sym is)

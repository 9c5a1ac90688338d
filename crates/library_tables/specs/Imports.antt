-- What a planned import leads to.
use Rattle.std.specs.Prelude.{◌≡◌, ◌≤◌, true, List, [], ◌∷◌, ◌++◌, length, map, None}
use Rattle.media_types.specs.declared.hash.Hash64.{Hash64}
use Rattle.file_records.specs.Importing.{IsPlannedFor}
use Rattle.file_records.specs.Searching.{is_queued}
use Rattle.vp_tree.specs.declared.plan.InsertPlan.{InsertPlan}
use Rattle.library_tables.specs.declared.imports.PlannedImport.{PlannedImport}
use Rattle.library_machine.specs.Records.{Records, Fits}
use Rattle.library_tables.specs.Tables.{TablesView, records_of}

-- the words of planned insertions
abbrev pub words_planned : List InsertPlan → List Hash64
words_planned inserts = map (λ insert. insert.word) inserts

-- The import can be made, and then these are the records. Its new words have their places planned, and it is
-- told whether the file is to be searched.
pub record LeadsImport (plan : PlannedImport) (t : TablesView) (after : Records) : Type 0 where
  pub planned : IsPlannedFor plan.file t.files
  pub book_room : 1 ≤ t.book.spare
  pub group_room : 1 ≤ t.groups.spare
  pub words : words_planned plan.words.items ≡ plan.file.words
  pub tree_room : length plan.file.words ≤ t.tree.spare
  pub unsearched : plan.file.row.searched ≡ None
  pub live : plan.file.row.live ≡ true
  pub told : is_queued t.distance plan.file.row ≡ plan.queued
  pub queue_room : 1 ≤ t.work.spare
  pub mark_room : length plan.file.words ≤ t.work.mark_spare
  pub fits : Fits after
  pub leads : after ≡ record (records_of t) { files = t.files.rows ++ plan.file.row ∷ [] }

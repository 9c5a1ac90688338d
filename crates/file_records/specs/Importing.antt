-- When the import of a file can no longer be refused.
use Rattle.std.specs.Prelude.{◌≡◌, ◌<◌, ◌≤◌, ◌+◌, List, ◌++◌, length}
use Rattle.media_types.specs.declared.hash.Hash64.{Hash64}
use Rattle.media_types.specs.declared.limits.TheConstants.{MAX_FILES, MAX_HASHES, MAX_WORDS}
use Rattle.spare_tables.specs.Table.{Table}
use Rattle.file_records.specs.declared.file_row.FileRow.{FileRow}
use Rattle.file_records.specs.Lookup.{IsUnknown}
use Rattle.file_records.specs.Words.{AreDistinctWords, new_words, words_of}

-- what a contract sees of a planned import: the row, and those of its hashes that no file has yet
pub record PlannedFile : Type 0 where
  pub row : FileRow
  pub words : List Hash64

-- There is room for the planned row, no file has its SHA-256, and the files are fewer than a library holds.
-- Its new words are those that no file has, and with them the words are no more than a library holds.
pub record IsPlannedFor (plan : PlannedFile) (files : Table FileRow) : Type 0 where
  pub room : 1 ≤ files.spare
  pub unknown : IsUnknown plan.row.sha files.rows
  pub few : length files.rows < MAX_FILES
  pub few_hashes : length plan.row.hashes ≤ MAX_HASHES
  pub words : plan.words ≡ new_words (words_of files.rows) plan.row.hashes
  pub distinct : AreDistinctWords (words_of files.rows ++ plan.words)
  pub few_words : length (words_of files.rows) + length plan.words ≤ MAX_WORDS

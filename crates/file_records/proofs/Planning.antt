-- A row and its new words make a plan, where there is room for them.
use Rattle.std.proofs.Common.{◌≡◌, ◌≤◌, ◌<◌, ℕ, List, length, ap, arith}
use Rattle.std.specs.List.{All}
use Rattle.media_types.specs.declared.hash.Hash64.{Hash64}
use Rattle.media_types.specs.declared.limits.TheConstants.{MAX_FILES, MAX_HASHES}
use Rattle.media_types.specs.declared.new_file.NewFile.{NewFile}
use Rattle.file_records.specs.declared.file_row.FileRow.{FileRow}
use Rattle.file_records.specs.Importing.{IsPlannedFor}
use Rattle.file_records.specs.Lookup.{IsUnknown}
use Rattle.file_records.specs.Rows.{row_of}
use Rattle.file_records.specs.Words.{new_words, words_of}
use Rattle.file_records.specs.WordLaws.{words_are_distinct, distinct_with_new, few_words, few_new_words}

pub planned : (file : NewFile) (files : List FileRow) (words : List Hash64) (spare : ℕ) →
    All (λ f. length f.hashes ≤ MAX_HASHES) files → IsUnknown file.sha files → length files < MAX_FILES → length file.hashes ≤ MAX_HASHES →
    words ≡ new_words (words_of files) file.hashes → 1 ≤ spare →
    IsPlannedFor (record { row = row_of file; words = words }) (record { rows = files; spare = spare })
planned file files words spare all_few unknown few few_hashes is room = record {
  room = room;
  unknown = unknown;
  few = few;
  few_hashes = few_hashes;
  words = is;
  distinct = rw is (distinct_with_new (words_of files) file.hashes (words_are_distinct files));
  few_words = omega (arith, ap length is, few_new_words (words_of files) file.hashes, few_words files all_few);
}

-- What holds of the files and of the tables by which they are found.
use Rattle.std.specs.Prelude.{◌≡◌, ◌≤◌, ◌↔◌, ℕ, true, List, length, map, All, Contains}
use Rattle.media_types.specs.declared.hash.Hash64.{Hash64}
use Rattle.media_types.specs.declared.hash.Sha.{Sha}
use Rattle.media_types.specs.declared.limits.TheConstants.{MAX_FILES, MAX_HASHES}
use Rattle.file_records.specs.declared.file_row.FileRow.{FileRow}
use Rattle.file_records.specs.Lookup.{AreDistinct}
use Rattle.file_records.specs.Words.{has_hash, words_of}

-- The index has the SHA-256 of each file, at the file's place, and the files are such as a library holds.
pub record IsSound (index : List Sha) (files : List FileRow) : Type 0 where
  pub in_order : index ≡ map (λ file. file.sha) files
  pub distinct : AreDistinct files
  pub few : length files ≤ MAX_FILES
  pub few_hashes : All (λ file. length file.hashes ≤ MAX_HASHES) files

-- The words are those of the files, and each pair is that of a word's number and a file that has it.
pub record AreHeld (words : List Hash64) (pairs : List (ℕ × ℕ)) (files : List FileRow) : Type 0 where
  pub in_order : words ≡ words_of files
  pub holders : (h k : ℕ) → Contains pairs (h, k) ↔ (has_hash h files k ≡ true)

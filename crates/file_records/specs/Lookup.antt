-- How a file is found by the SHA-256 of its bytes.
use Rattle.std.specs.Prelude.{◌≢◌, ℕ, List, Option, position, bytes_eq, All}
use Rattle.std.specs.List.{AllPairs}
use Rattle.media_types.specs.declared.hash.Sha.{Sha}
use Rattle.file_records.specs.declared.file_row.FileRow.{FileRow}

-- the place of the file with this SHA-256
abbrev pub file_with : Sha → List FileRow → Option ℕ
file_with sha files = position (λ file. bytes_eq file.sha.0 sha.0) files

-- no file has this SHA-256
abbrev pub IsUnknown : Sha → List FileRow → Type 0
IsUnknown sha files = All (λ file. file.sha ≢ sha) files

-- no two files have the same SHA-256
abbrev pub AreDistinct : List FileRow → Type 0
AreDistinct files = AllPairs (λ a b. a.sha ≢ b.sha) files

-- The row of a file.
use Rattle.std.specs.Prelude.{true, None}
use Rattle.media_types.specs.declared.new_file.NewFile.{NewFile}
use Rattle.file_records.specs.declared.file_row.FileRow.{FileRow}

-- A file that is imported now: live, and never searched.
abbrev pub row_of : NewFile → FileRow
row_of file = record {
  sha = file.sha;
  hashes = file.hashes;
  size = file.size;
  width = file.width;
  height = file.height;
  live = true;
  searched = None;
}

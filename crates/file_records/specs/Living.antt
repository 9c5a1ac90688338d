-- Which files are live. A deleted file keeps its row and all that is recorded of it, and can come back.
use Rattle.std.specs.Prelude.{ℕ, zero, suc, Bool, not, List, [], ◌∷◌, length, filter}
use Rattle.std.specs.List.{range_with_len}
use Rattle.file_records.specs.Searching.{passes}
use Rattle.file_records.specs.declared.file_row.FileRow.{FileRow}

-- the file of number k is there and isn't deleted
abbrev pub is_live : List FileRow → ℕ → Bool
is_live rows k = passes (λ row. row.live) rows k

-- the numbers of the deleted files, ascending
abbrev pub deleted : List FileRow → List ℕ
deleted rows = filter (passes (λ row. not row.live) rows) (range_with_len 0 (length rows))

-- the row, once its file is live, or deleted
abbrev pub with_mark : Bool → FileRow → FileRow
with_mark live row = record row { live = live }

-- the rows, once the file of number n is live, or deleted
abbrev pub with_live_mark : ℕ → Bool → List FileRow → List FileRow
with_live_mark n live [] = []
with_live_mark zero live (row ∷ rows) = with_mark live row ∷ rows
with_live_mark (suc n) live (row ∷ rows) = row ∷ with_live_mark n live rows

-- How far the duplicates of files were searched, and which files are to be searched.
use Rattle.std.specs.Prelude.{ℕ, suc, Bool, true, false, ◌==◌, ◌&&◌, if◌then◌else◌, nat_le, nat_lt, List, [], ◌∷◌, length, filter, slice_get, max, Some}
use Rattle.std.specs.List.{list_any}
use Rattle.std.specs.Option.{option_map_or}
use Rattle.media_types.specs.Numbered.{files}
use Rattle.media_types.specs.declared.numbers.FileNo.{FileNo}
use Rattle.file_records.specs.declared.file_row.FileRow.{FileRow}

-- it was searched within less than d, or never
abbrev pub is_short_of : ℕ → FileRow → Bool
is_short_of d row = option_map_or (λ s. nat_lt s d) row.searched true

-- a file with a hash wants a search within d until it was searched so far
abbrev pub wants_search : ℕ → FileRow → Bool
wants_search d row = nat_lt 0 (length row.hashes) && is_short_of d row

-- and is to be searched while it is live
abbrev pub is_queued : ℕ → FileRow → Bool
is_queued d row = row.live && wants_search d row

-- the file of number k is there and passes the test
abbrev pub passes : (FileRow → Bool) → List FileRow → ℕ → Bool
passes test rows k = option_map_or test (slice_get rows k) false

-- it was searched within d or farther
abbrev pub reaches : ℕ → FileRow → Bool
reaches d row = option_map_or (nat_le d) row.searched false

-- the files that are to be searched within d, ascending
unfoldable pub queue_of : ℕ → List FileRow → List FileNo
queue_of d rows = filter (λ f. passes (is_queued d) rows f.0) (files (length rows))

-- the row, once its file is searched within d: the greater of both distances stays
abbrev pub raised : ℕ → FileRow → FileRow
raised d row = record row { searched = Some (option_map_or (max d) row.searched d) }

abbrev pub is_named : List FileNo → ℕ → Bool
is_named named k = list_any (λ f. f.0 == k) named

-- the rows, the first of which has the number k, once the named files are searched within d
abbrev pub searched_from : ℕ → ℕ → List FileNo → List FileRow → List FileRow
searched_from k d named [] = []
searched_from k d named (row ∷ rows) =
    (if is_named named k then raised d row else row) ∷ searched_from (suc k) d named rows

-- the files, once those that are named are searched within d
unfoldable pub searched : ℕ → List FileNo → List FileRow → List FileRow
searched d named rows = searched_from 0 d named rows

-- the named files whose searched distance rises by a search within d, each once, ascending
unfoldable pub rising : ℕ → List FileNo → List FileRow → List FileNo
rising d named rows = filter (λ f. is_named named f.0 && passes (is_short_of d) rows f.0) (files (length rows))

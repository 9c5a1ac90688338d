-- Near pairs: two different files whose distance is at most how far both were searched. Deleted files stay
-- near.
use Rattle.std.specs.Prelude.{ℕ, ◌&&◌, if◌then◌else◌, List, [], length, slice_get, Option, Some, None}
use Rattle.std.specs.Option.{option_map_or}
use Rattle.spare_tables.specs.Pairs.{pairs_below}
use Rattle.media_types.specs.declared.hash.Hash64.{Hash64}
use Rattle.file_records.specs.Distances.{least_distance}
use Rattle.file_records.specs.Searching.{passes, reaches}
use Rattle.file_records.specs.declared.file_row.FileRow.{FileRow}

-- the hashes of the file of number f; a file that isn't there has none
abbrev pub hashes_at : List FileRow → ℕ → List Hash64
hashes_at rows f = option_map_or (λ row. row.hashes) (slice_get rows f) []

-- the distance of two files, where both have a hash
abbrev pub distance_at : List FileRow → ℕ → ℕ → Option ℕ
distance_at rows f g = least_distance (hashes_at rows f) (hashes_at rows g)

-- the distance, where both files were searched within it or farther
abbrev pub if_reached : List FileRow → ℕ → ℕ → Option ℕ → Option ℕ
if_reached rows f g None = None
if_reached rows f g (Some d) =
    if passes (reaches d) rows f && passes (reaches d) rows g then Some d else None

-- the distance of two near files; none where they aren't near
unfoldable pub near_at : List FileRow → ℕ → ℕ → Option ℕ
near_at rows f g = if_reached rows f g (distance_at rows f g)

-- the near pairs of the files with their distances, the lower file of each first, in order
abbrev pub near_pairs : List FileRow → List ((ℕ × ℕ) × ℕ)
near_pairs rows = pairs_below (length rows) (near_at rows)

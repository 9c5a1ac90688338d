-- What a search notes: each searched file with each file that has a hash near one of its own, where the two are
-- near once the search is done.
use Rattle.std.specs.Prelude.{◌≡◌, ℕ, ◌==◌, nat_lt, if◌then◌else◌, List, length, filter, filter_map, Option, None}
use Rattle.std.specs.List.{flat_map}
use Rattle.std.specs.Option.{option_map}
use Rattle.media_types.specs.Numbered.{files}
use Rattle.media_types.specs.declared.hash.Hash64.{Hash64}
use Rattle.media_types.specs.declared.numbers.FileNo.{FileNo}
use Rattle.file_records.specs.Near.{hashes_at, near_at}
use Rattle.file_records.specs.Searching.{rising, searched}
use Rattle.file_records.specs.Words.{has_hash}
use Rattle.file_records.specs.declared.file_row.FileRow.{FileRow}
use Rattle.vp_tree.specs.Searching.{filter_of}
use Rattle.vp_tree.specs.declared.node.NodeView.{NodeView}
use Rattle.potential_pairs.specs.Planning.{Found}

-- these are the files whose searched distance a search within d raises
abbrev pub IsRise : ℕ → List FileRow → List FileNo → Type 0
IsRise d rows risen = (named : List FileNo) × (risen ≡ rising d named rows)

-- two files and their distance, the lower file first
abbrev pub pair_of : FileNo → FileNo → ℕ → Found
pair_of f g d = if nat_lt f.0 g.0 then (f, g, d) else (g, f, d)

-- the pair of two files, where they are two and near
unfoldable pub near_pair : List FileRow → FileNo → FileNo → Option Found
near_pair rows f g = if f.0 == g.0 then None else option_map (pair_of f g) (near_at rows f.0 g.0)

-- the files that have the hash of this number, ascending
abbrev pub holders_of : List FileRow → ℕ → List FileNo
holders_of rows h = filter (λ f. has_hash h rows f.0) (files (length rows))

module _ (tree : List NodeView) (rows : List FileRow) (d : ℕ) (risen : List FileNo) where
  -- of this file and those that have the hash of this number
  abbrev pub noted_at : FileNo → ℕ → List Found
  noted_at f h = filter_map (near_pair (searched d risen rows) f) (holders_of rows h)

  -- of this file and those that have a hash within the distance from this one
  abbrev pub noted_near : FileNo → Hash64 → List Found
  noted_near f word = flat_map (λ hit. noted_at f hit.0.0) (filter_of tree word d)

  -- of this file and those that have a hash within the distance from one of its own
  abbrev pub noted_of : FileNo → List Found
  noted_of f = flat_map (noted_near f) (hashes_at rows f.0)

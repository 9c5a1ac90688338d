-- How much a search meets.
use Rattle.std.specs.Prelude.{ℕ, ◌+◌, List, map, length, filter}
use Rattle.std.specs.List.{sum}
use Rattle.media_types.specs.Numbered.{files}
use Rattle.media_types.specs.declared.hash.Hash64.{Hash64}
use Rattle.media_types.specs.declared.numbers.FileNo.{FileNo}
use Rattle.file_records.specs.Near.{hashes_at}
use Rattle.file_records.specs.Words.{has_hash}
use Rattle.file_records.specs.declared.file_row.FileRow.{FileRow}
use Rattle.vp_tree.specs.Searching.{filter_of, reads}
use Rattle.vp_tree.specs.declared.node.NodeView.{NodeView}

-- how many files have the hash of this number
abbrev pub holders : List FileRow → ℕ → ℕ
holders rows h = length (filter (λ f. has_hash h rows f.0) (files (length rows)))

-- what a search for one hash meets: the nodes that the tree reads, and each file that has a hit
abbrev pub met : List NodeView → List FileRow → ℕ → Hash64 → ℕ
met tree rows d word = reads tree word d + sum (map (λ hit. holders rows hit.0.0) (filter_of tree word d))

-- what a search for all hashes of a file meets
abbrev pub met_of : List NodeView → List FileRow → ℕ → FileNo → ℕ
met_of tree rows d f = sum (map (met tree rows d) (hashes_at rows f.0))

-- what a search for all hashes of these files meets
unfoldable pub work : List NodeView → List FileRow → ℕ → List FileNo → ℕ
work tree rows d named = sum (map (met_of tree rows d) named)

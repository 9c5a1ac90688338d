-- What a search reads.
use Rattle.std.specs.Prelude.{ℕ, ◌+◌, ◌/◌, ◌==◌, if◌then◌else◌, List, length, sum_by, bit_xor}
use Rattle.media_types.specs.declared.hash.Hash64.{Hash64}
use Rattle.word_chunks.specs.Chunks.{chunk, words_at}
use Rattle.word_chunks.specs.Masks.{masks_below}

-- what is read of a value of a chunk that so many words have: their number, and where there are some, the
-- place of the first one, each of them, and the look behind the last one
abbrev pub reads_at : ℕ → ℕ
reads_at words = if words == 0 then 1 else words + 3

-- the same of all values near the query's; `rows` has the words of each value
abbrev pub reads_in : ℕ → Hash64 → (ℕ → List ((ℕ × ℕ) × Hash64)) → List ℕ → ℕ
reads_in c query rows masks = sum_by (λ mask. reads_at (length (rows (bit_xor (chunk c query) mask)))) masks

-- the reads of a search: in each chunk the values within a quarter of the distance
abbrev pub reads : List Hash64 → Hash64 → ℕ → ℕ
reads ws query within =
    let masks = masks_below (within / 4) 65536 in
    reads_in 0 query (words_at 0 ws) masks + reads_in 1 query (words_at 1 ws) masks
    + reads_in 2 query (words_at 2 ws) masks + reads_in 3 query (words_at 3 ws) masks

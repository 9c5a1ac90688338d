-- The four chunks of a word, of 16 bits each, and the words with one value of a chunk.
use Rattle.std.specs.Prelude.{ℕ, ◌*◌, ◌/◌, ◌%◌, ◌^◌, bit_xor, count_ones, List, length, map, slice_index_or}
use Rattle.std.specs.List.{range_with_len}
use Rattle.media_types.specs.declared.hash.Hash64.{Hash64}
use Rattle.spare_tables.specs.Firsts.{of_first}

-- the chunk of this number, 0 to 3, from the lowest bits on
abbrev pub chunk : ℕ → Hash64 → ℕ
chunk c w = w.0 / 2 ^ (16 * c) % 2 ^ 16

-- the number of bits in which two words differ in a chunk
abbrev pub chunk_distance : ℕ → Hash64 → Hash64 → ℕ
chunk_distance c x y = count_ones (bit_xor (chunk c x) (chunk c y))

abbrev pub word_at : List Hash64 → ℕ → Hash64
word_at ws k = slice_index_or ws k (record { 0 = 0 })

-- a word behind its value of a chunk and its number
abbrev pub row_of : ℕ → List Hash64 → ℕ → (ℕ × ℕ) × Hash64
row_of c ws k = ((chunk c (word_at ws k), k), word_at ws k)

-- the words with this value of a chunk, ascending by number
abbrev pub words_at : ℕ → List Hash64 → ℕ → List ((ℕ × ℕ) × Hash64)
words_at c ws value = of_first value (map (row_of c ws) (range_with_len 0 (length ws)))

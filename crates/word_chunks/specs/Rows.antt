-- Rows of words, by their values of a chunk and their numbers.
use Rattle.std.specs.Prelude.{ℕ, ◌≡◌, ◌<◌, ◌==◌, if◌then◌else◌, List, [], ◌∷◌, All, length, map, slice_index_or}
use Rattle.std.specs.List.{range_with_len}
use Rattle.media_types.specs.declared.hash.Hash64.{Hash64}
use Rattle.spare_tables.specs.Firsts.{of_first}

-- the word of the row with this number
abbrev pub word_in : List ((ℕ × ℕ) × Hash64) → ℕ → Hash64
word_in [] k = record { 0 = 0 }
word_in (row ∷ rows) k = if row.0.1 == k then row.1 else word_in rows k

-- the words of all rows, by number
abbrev pub words_in : List ((ℕ × ℕ) × Hash64) → List Hash64
words_in rows = map (word_in rows) (range_with_len 0 (length rows))

-- the rows are numbered, and there is the number of words with each value
pub record IsCounted (rows : List ((ℕ × ℕ) × Hash64)) (counts : List ℕ) : Type 0 where
  pub numbered : All (λ (row : (ℕ × ℕ) × Hash64). row.0.1 < length rows) rows
  pub values : length counts ≡ 65536
  pub counted : (v : ℕ) → v < 65536 → slice_index_or counts v 0 ≡ length (of_first v rows)

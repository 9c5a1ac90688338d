-- What makes four tables those of the chunks of words.
use Rattle.std.specs.Prelude.{ℕ, ◌≡◌, ◌≤◌, List, length}
use Rattle.media_types.specs.declared.hash.Hash64.{Hash64}
use Rattle.media_types.specs.declared.limits.TheConstants.{MAX_WORDS}
use Rattle.spare_tables.specs.Firsts.{of_first}
use Rattle.word_chunks.specs.Chunks.{words_at}
use Rattle.word_chunks.specs.Rows.{words_in}

-- the rows of each value of a chunk are the words that have it
pub record IsChunk (c : ℕ) (ws : List Hash64) (rows : List ((ℕ × ℕ) × Hash64)) : Type 0 where
  pub len : length rows ≡ length ws
  pub words : (v : ℕ) → of_first v rows ≡ words_at c ws v

-- the words of the first table stand in all four, by their chunks
pub record IsChunked (first second third fourth : List ((ℕ × ℕ) × Hash64)) : Type 0 where
  pub few : length first ≤ MAX_WORDS
  pub by_first : IsChunk 0 (words_in first) first
  pub by_second : IsChunk 1 (words_in first) second
  pub by_third : IsChunk 2 (words_in first) third
  pub by_fourth : IsChunk 3 (words_in first) fourth

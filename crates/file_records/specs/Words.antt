-- The distinct hashes of files, called words here, and which files have them.
use Rattle.std.specs.Prelude.{◌≢◌, ℕ, Bool, false, ◌==◌, ◌&&◌, if◌then◌else◌, List, [], ◌∷◌, ◌++◌, length, position, find, slice_get, Option}
use Rattle.std.specs.List.{list_any, AllPairs}
use Rattle.std.specs.Option.{option_map_or}
use Rattle.media_types.specs.Numbered.{files, is_past}
use Rattle.media_types.specs.declared.hash.Hash64.{Hash64}
use Rattle.media_types.specs.declared.numbers.FileNo.{FileNo}
use Rattle.file_records.specs.declared.file_row.FileRow.{FileRow}

abbrev pub is_among : List Hash64 → Hash64 → Bool
is_among words word = list_any (λ w. w.0 == word.0) words

-- those of the hashes that aren't among the words, each once, in their order
abbrev pub new_words : List Hash64 → List Hash64 → List Hash64
new_words words [] = []
new_words words (hash ∷ hashes) =
    if is_among words hash then new_words words hashes else hash ∷ new_words (words ++ hash ∷ []) hashes

-- the words, and behind them those that these files bring
abbrev pub words_with : List Hash64 → List FileRow → List Hash64
words_with words [] = words
words_with words (file ∷ more) = words_with (words ++ new_words words file.hashes) more

-- the distinct hashes of the files, in order of first import: each one's place is its number
unfoldable pub words_of : List FileRow → List Hash64
words_of rows = words_with [] rows

-- no word stands twice
abbrev pub AreDistinctWords : List Hash64 → Type 0
AreDistinctWords words = AllPairs (λ a b. a ≢ b) words

-- the number of a word
abbrev pub number_of : Hash64 → List Hash64 → Option ℕ
number_of word words = position (λ w. w.0 == word.0) words

-- one of the hashes has this number among the words
abbrev pub has_number : List Hash64 → ℕ → List Hash64 → Bool
has_number words h hashes = list_any (λ w. option_map_or (λ n. n == h) (number_of w words) false) hashes

-- the file of number k is there and has the hash of number h
abbrev pub has_hash : ℕ → List FileRow → ℕ → Bool
has_hash h rows k = option_map_or (λ row. has_number (words_of rows) h row.hashes) (slice_get rows k) false

-- the least file after the place that has the hash of this number
unfoldable pub next_with : ℕ → Option FileNo → List FileRow → Option FileNo
next_with h after rows = find (λ f. is_past after f.0 && has_hash h rows f.0) (files (length rows))

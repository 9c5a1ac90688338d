-- The words of the program.
use Rattle.std.specs.Prelude.{ℕ, List, [], ◌∷◌, codes}

-- A session over standard input and output, with a library in memory.
abbrev pub play_words : List (List ℕ)
play_words = codes "play" ∷ codes "-" ∷ []

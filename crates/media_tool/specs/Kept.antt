-- What a session keeps of a line that no line feed ended yet.
use Rattle.std.specs.Prelude.{◌≡◌, ℕ, ◌+◌, List, take}
use Rattle.command_text.specs.declared.request.TheConstants.{MAX_LINE}
use Rattle.media_tool.specs.Lines.{HasNoFeed}

-- all of the line, or one byte more than a line may have: by that front a line is too long exactly where it is
unfoldable pub kept_of : List ℕ → List ℕ
kept_of line = take (MAX_LINE + 1) line

-- These bytes are kept of an unfinished line.
pub record Keeps (kept line : List ℕ) : Type 0 where
  pub front : kept ≡ kept_of line
  pub unfinished : HasNoFeed line

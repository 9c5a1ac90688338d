-- One piece of the input, which came behind a line that isn't finished.
use Rattle.std.specs.Prelude.{ℕ, List, ◌++◌, Option, Result, MatchResult}
use Rattle.media_base.specs.Replying.{Reply}
use Rattle.media_base.specs.Transfer.{TookFront}
use Rattle.library_core.specs.Done.{Telling}
use Rattle.reply_text.specs.ReplyText.{reply_line}
use Rattle.media_tool.specs.Kept.{Keeps}
use Rattle.media_tool.specs.Lines.{Cut, with_rest}
use Rattle.media_tool.specs.Run.{LineAnswered, Run, SessionState, text_of}

-- The sink took a front of what was held and the text.
abbrev pub TookBehind : Option (List ℕ) → List ℕ → Option (List ℕ) → List ℕ → Type 0
TookBehind old held new text = TookFront old new (held ++ text)

-- `Went` says what became of the text of the replies: the sink took it, or it was gathered, or a front of it was taken.
module _ {K : Type 0} (tells : Telling K) where
  -- The lines that the piece ended were answered, and leave this rest unfinished.
  pub record Fed (s : SessionState K) (line piece : List ℕ) (after : SessionState K) (rest : List ℕ) (Went : List ℕ → Type 0) : Type 0 where
    pub lines : List (List ℕ)
    pub replies : List Reply
    pub cut : Cut (line ++ piece) lines rest
    pub run : Run tells s lines replies after
    pub went : Went (text_of replies)

  -- The same, and these bytes are kept of the rest.
  pub record FedKept (s : SessionState K) (line piece : List ℕ) (after : SessionState K) (kept : List ℕ) (Went : List ℕ → Type 0) : Type 0 where
    pub rest : List ℕ
    pub keeps : Keeps kept rest
    pub fed : Fed s line piece after rest Went

  -- It stopped at some place of the piece: this became of what all its lines may be answered.
  pub record Stopped (s : SessionState K) (line piece : List ℕ) (after : SessionState K) (Went : List ℕ → Type 0) : Type 0 where
    pub lines : List (List ℕ)
    pub rest : List ℕ
    pub replies : List Reply
    pub cut : Cut (line ++ piece) lines rest
    pub run : Run tells s (with_rest lines rest) replies after
    pub went : Went (text_of replies)

  -- A line was answered, and the answer was sent or gathered.
  pub record LineSent {T E : Type 0} (s : SessionState K) (line : List ℕ) (after : SessionState K) (Went Failed : List ℕ → Type 0) (result : Result T E) : Type 0 where
    pub reply : Reply
    pub answered : LineAnswered tells s line reply after
    pub sends : MatchResult result (λ _. Went (reply_line reply)) (λ _. Failed (reply_line reply))

-- What the replies of a run say of the room that the keeper has.
use Rattle.std.specs.Prelude.{◌≡◌, ◌≢◌, ◌⊎◌, ℕ, ◌+◌, List, Option, Some, None, Result, Ok, Err}
use Rattle.std.specs.List.{AllByRecursion}
use Rattle.media_base.specs.declared.change.Change.{Change}
use Rattle.media_base.specs.declared.command.Caller.TheVariants as callers
use Rattle.media_base.specs.declared.command.Command.{Command}
use Rattle.media_base.specs.declared.refusal.Refusal.{Refusal}
use Rattle.media_base.specs.declared.refusal.Refusal.TheVariants as refusals
use Rattle.media_base.specs.Replying.{Reply}
use Rattle.library_machine.specs.Step.{State, change_of, step}
use Rattle.command_text.specs.Reading.{line_command}
use Rattle.library_core.specs.Done.{Telling, HasNoRoom}
use Rattle.media_tool.specs.Run.{LineAnswered, Run, SessionState}

-- the change that is to be kept for what was read, where it is a command that would change the records
abbrev pub change_for : State → Result Command Refusal → Option Change
change_for s (Ok command) = change_of (step s callers.Console command)
change_for s (Err why) = None

-- the same for a line
abbrev pub line_change : State → List ℕ → Option Change
line_change s line = change_for s (line_command line)

-- the units that are used for a reply
abbrev pub units_taken : (Change → ℕ) → Option Change → Reply → ℕ
units_taken units (Some change) (Ok answer) = units change
units_taken units (Some change) (Err why) = 0
units_taken units None reply = 0

-- No reply is this refusal.
abbrev pub NeverRefused : Refusal → List Reply → Type 0
NeverRefused why replies = AllByRecursion (λ reply. reply ≢ Err why) replies

module _ {K : Type 0} (tells : Telling K) where
  -- What the reply to a line says of room. `journal_full` comes exactly where there is none for the line's change, but
  -- for want of memory. Only a change that is kept takes room.
  pub record TellsRoom (s : SessionState K) (line : List ℕ) (reply : Reply) (t : SessionState K) : Type 0 where
    pub full : reply ≡ Err refusals.JournalFull
        → (change : Change) × (line_change s.machine line ≡ Some change) × HasNoRoom tells s.keeper change
    pub no_room : (change : Change) → line_change s.machine line ≡ Some change → HasNoRoom tells s.keeper change
        → (reply ≡ Err refusals.NoMemory) ⊎ (reply ≡ Err refusals.JournalFull)
    pub used : tells.used t.keeper ≡ tells.used s.keeper + units_taken (tells.units s.keeper) (line_change s.machine line) reply
    pub same_limit : tells.limit t.keeper ≡ tells.limit s.keeper
    pub same_units : tells.units t.keeper ≡ tells.units s.keeper

  -- A line in the midst of a run came in one state and left another, and its reply tells the room of that moment.
  pub record ToldWithin (opening : SessionState K) (earlier : List (List ℕ)) (given : List Reply) (line : List ℕ) (reply : Reply) (later : List (List ℕ)) (more : List Reply) (after : SessionState K) : Type 0 where
    pub before : SessionState K
    pub next : SessionState K
    pub first : Run tells opening earlier given before
    pub answered : LineAnswered tells before line reply next
    pub room : TellsRoom before line reply next
    pub rest : Run tells next later more after

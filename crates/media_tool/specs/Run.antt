-- What a session may answer to its lines, one after the other.
use Rattle.std.specs.Prelude.{◌≡◌, ℕ, Bool, true, false, List, [], ◌∷◌, count_by, Option, Ok, Err}
use Rattle.std.specs.List.{flat_map}
use Rattle.media_base.specs.declared.change.Change.{Change}
use Rattle.media_base.specs.declared.command.Caller.TheVariants as callers
use Rattle.media_base.specs.declared.command.Command.{Command}
use Rattle.media_base.specs.declared.refusal.Refusal.{Refusal}
use Rattle.media_base.specs.declared.refusal.Refusal.TheVariants as refusals
use Rattle.media_base.specs.Keeping.{Readings}
use Rattle.media_base.specs.Replying.{Reply}
use Rattle.library_machine.specs.Step.{State, change_of, step}
use Rattle.command_text.specs.Reading.{line_command}
use Rattle.reply_text.specs.ReplyText.{reply_line}
use Rattle.library_core.specs.Done.{Telling, IsDone}
use Rattle.library_core.specs.Keeping.{Follows, LibraryView}
use Rattle.library_core.specs.Marking.{MarkedTree}

-- What a session goes through: the state of the machine, the tree of the hashes with its marks, and the keeper of
-- its changes.
pub record SessionState (K : Type 0) : Type 0 where
  pub machine : State
  pub tree : MarkedTree
  pub keeper : K

-- the state of a session over this library
abbrev pub state_of : {K : Type 0} → LibraryView K → SessionState K
state_of library = record { machine = library.state; tree = library.tree; keeper = library.keeper }

-- what the keepers of a kind tell
abbrev pub telling : {K : Type 0} → (K → Option Readings) → (K → Option Bool) → (K → ℕ) → (K → ℕ) → (K → Change → ℕ) → (K → ℕ) → Telling K
telling kept alien faults used units limit =
    record { kept = kept; alien = alien; faults = faults; used = used; units = units; limit = limit }

module _ {K : Type 0} (tells : Telling K) where
  -- A command of the console may be answered so, and leaves this state.
  pub record CommandAnswered (s : SessionState K) (command : Command) (reply : Reply) (t : SessionState K) : Type 0 where
    pub done : IsDone tells s.machine s.keeper (step s.machine callers.Console command) reply t.machine t.keeper
    pub tree : Follows s.machine.kept command (change_of (step s.machine callers.Console command)) reply s.tree t.tree

  -- One line may be answered so: with the answer to the console's command that it spells, with the refusal of
  -- its reading, or with want of memory. A line that isn't answered as a command changes nothing.
  pub data LineAnswered (s : SessionState K) (line : List ℕ) (reply : Reply) (t : SessionState K) : Type 0 where
    as_command : (command : Command) → line_command line ≡ Ok command → CommandAnswered s command reply t → LineAnswered s line reply t
    as_refused : (why : Refusal) → line_command line ≡ Err why → reply ≡ Err why → t ≡ s → LineAnswered s line reply t
    as_no_memory : reply ≡ Err refusals.NoMemory → t ≡ s → LineAnswered s line reply t

  -- The lines may be answered so, each from the state that the line before it left.
  abbrev pub Run : SessionState K → List (List ℕ) → List Reply → SessionState K → Type 0
  Run s [] [] after = after ≡ s
  Run s (line ∷ lines) (reply ∷ replies) after = (next : SessionState K) × LineAnswered s line reply next × Run next lines replies after
  Run s [] (reply ∷ replies) after = ⊥
  Run s (line ∷ lines) [] after = ⊥

-- the text of a run: each reply, with a line feed
abbrev pub text_of : List Reply → List ℕ
text_of replies = flat_map reply_line replies

abbrev pub is_not_kept : Reply → Bool
is_not_kept (Err refusals.NotKept) = true
is_not_kept reply = false

-- how many of the replies say that a change wasn't kept
abbrev pub count_not_kept : List Reply → ℕ
count_not_kept replies = count_by is_not_kept replies

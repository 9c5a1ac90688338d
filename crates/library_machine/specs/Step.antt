-- The machine: what one command of one caller comes to.
use Rattle.std.specs.Prelude.{◌≡◌, Bool, true, false, Option, Some, None, IsSome, Result, Ok, Err}
use Rattle.media_base.specs.declared.change.Change.{Change}
use Rattle.media_base.specs.declared.command.Caller.{Caller}
use Rattle.media_base.specs.declared.command.Caller.TheVariants as callers
use Rattle.media_base.specs.declared.command.Command.{Command}
use Rattle.media_base.specs.declared.command.Command.TheVariants as commands
use Rattle.media_base.specs.declared.refusal.Refusal.TheVariants as refusals
use Rattle.media_base.specs.declared.refusal.Unmet.{Unmet}
use Rattle.media_base.specs.declared.reply.Answer.{Answer}
use Rattle.media_base.specs.Replying.{Reply}
use Rattle.library_machine.specs.Asking.{asked}
use Rattle.library_machine.specs.Changing.{answer_to, does}
use Rattle.library_machine.specs.Effects.{effect}
use Rattle.library_machine.specs.Desks.{Desks, no_desks}
use Rattle.library_machine.specs.Jobs.{Deed, tells, makes, tended, worked_out}
use Rattle.library_machine.specs.Records.{Records}

-- What is recorded, which is kept, and the open desks, which aren't.
pub record State : Type 0 where
  pub kept : Records
  pub desks : Desks

-- the state in which a library of these records opens
abbrev pub at_opening : Records → State
at_opening r = record { kept = r; desks = no_desks }

-- What a step comes to, with the desks after it. A change is to be kept, and what is recorded then is its effect.
pub data Outcome : Type 0 where
  refused : Unmet → Outcome
  told : Desks → Answer → Outcome
  changed : Change → Desks → Answer → Outcome

-- the state after it
abbrev pub after : State → Outcome → State
after s (refused why) = s
after s (told desks answer) = record s { desks = desks }
after s (changed c desks answer) = record { kept = effect s.kept c; desks = desks }

abbrev pub reply_of : Outcome → Reply
reply_of (refused why) = Err (refusals.Unmet why)
reply_of (told desks answer) = Ok answer
reply_of (changed c desks answer) = Ok answer

-- the change that is to be kept, where the records change
abbrev pub change_of : Outcome → Option Change
change_of (refused why) = None
change_of (told desks answer) = None
change_of (changed c desks answer) = Some c

abbrev pub by_change : Records → Desks → Change → Result Bool Unmet → Outcome
by_change r desks c (Ok true) = told desks (answer_to r c)
by_change r desks c (Ok false) = changed c desks (answer_to r c)
by_change r desks c (Err why) = refused why

-- The change is made, where its needs are met and it would change the records. The desks are these then.
abbrev pub made : Records → Desks → Change → Outcome
made r desks c = by_change r desks c (does r c)

abbrev pub by_answer : Desks → Result Answer Unmet → Outcome
by_answer desks (Ok answer) = told desks answer
by_answer desks (Err why) = refused why

abbrev pub by_deed : Records → Desks → Deed → Outcome
by_deed r desks (tells answer) = told desks answer
by_deed r desks (makes c) = made r desks c

-- the step of a caller who may ask it
abbrev pub step_of : State → Command → Outcome
step_of s (commands.Ask q) = by_answer s.desks (asked s.kept q)
step_of s (commands.Do c) = made s.kept s.desks c
step_of s (commands.Run j) = by_deed s.kept s.desks (worked_out s.kept j)
step_of s (commands.Tend u) = told s.desks (tended u)

-- Whether the caller may ask this, by what is recorded. The console may ask all.
unfoldable pub admitted : Records → Caller → Command → Result (Unit {0}) Unmet
admitted r callers.Console command = Ok tt

abbrev pub by_caller : State → Command → Result (Unit {0}) Unmet → Outcome
by_caller s command (Ok may) = step_of s command
by_caller s command (Err why) = refused why

unfoldable pub step : State → Caller → Command → Outcome
step s caller command = by_caller s command (admitted s.kept caller command)

-- the state after a step
abbrev pub after_step : State → Caller → Command → State
after_step s caller command = after s (step s caller command)

-- What may be answered: the step's reply, with the step's state after it, or want of memory; or, where
-- the records would change, that there is no room to keep the change, or that it wasn't kept. But for the
-- step's own reply nothing changes.
pub data Answered (s : State) (o : Outcome) (reply : Reply) (new : State) : Type 0 where
  by_step : reply_of o ≡ reply → after s o ≡ new → Answered s o reply new
  no_memory : reply ≡ Err refusals.NoMemory → new ≡ s → Answered s o reply new
  journal_full : IsSome (change_of o) → reply ≡ Err refusals.JournalFull → new ≡ s → Answered s o reply new
  not_kept : IsSome (change_of o) → reply ≡ Err refusals.NotKept → new ≡ s → Answered s o reply new

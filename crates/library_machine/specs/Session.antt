-- A session at the program itself: one command after another.
use Rattle.std.specs.Prelude.{List, [], ◌∷◌}
use Rattle.media_base.specs.declared.command.Caller.TheVariants as callers
use Rattle.media_base.specs.declared.command.Command.{Command}
use Rattle.media_base.specs.Replying.{Reply}
use Rattle.library_machine.specs.Records.{no_records}
use Rattle.library_machine.specs.Step.{State, after_step, at_opening, reply_of, step}

-- the replies to the commands, in order, where memory never wants
abbrev pub replies : State → List Command → List Reply
replies s [] = []
replies s (command ∷ commands) =
    reply_of (step s callers.Console command) ∷ replies (after_step s callers.Console command) commands

-- the state after the commands
abbrev pub state_after : State → List Command → State
state_after s [] = s
state_after s (command ∷ commands) = state_after (after_step s callers.Console command) commands

-- nothing is recorded
abbrev pub nothing : State
nothing = at_opening no_records

-- the last replies, to these commands behind others
abbrev pub replies_behind : List Command → List Command → List Reply
replies_behind first then = replies (state_after nothing first) then

-- The keeper in memory: what it keeps, and which of its calls fail.
use Rattle.std.specs.Prelude.{ℕ, ◌+◌, Bool, true, List, [], ◌∷◌, ◌++◌, length, map, Some, if◌then◌else◌, Result, Ok, Err}
use Rattle.media_base.specs.declared.change.Change.{Change}
use Rattle.media_base.specs.declared.keeper.StartFault.{StartFault}
use Rattle.media_base.specs.declared.keeper.StartFault.TheVariants as starts
use Rattle.media_base.specs.declared.keeper.NextFault.{NextFault}
use Rattle.media_base.specs.declared.keeper.NextFault.TheVariants as nexts
use Rattle.media_base.specs.declared.keeper.PutFault.{PutFault}
use Rattle.media_base.specs.declared.keeper.PutFault.TheVariants as puts
use Rattle.media_base.specs.Keeping.{Readings}
use Rattle.media_base.specs.Scripts.{counted, fails_next}

pub record KeeperScript : Type 0 where
  -- the changes kept, and how many there is room for in all
  pub kept : List Change
  pub limit : ℕ
  -- the numbers of the calls that fail, from 1
  pub fails : List ℕ
  pub calls : ℕ
  pub faults : ℕ
  -- whether a start was Ok, how many changes were given since the last such start, and how many it told
  pub started : Bool
  pub given : ℕ
  pub told : ℕ

-- each change with its reading
abbrev pub readings_of : List Change → Readings
readings_of changes = map Some changes

-- whether the next call is one that fails
abbrev pub is_failing : KeeperScript → Bool
is_failing keeper = fails_next keeper.fails keeper.calls

-- a call that changes nothing
abbrev pub after_call : KeeperScript → KeeperScript
after_call keeper = record keeper { calls = counted keeper.calls }

-- a call that fails
abbrev pub after_fault : KeeperScript → KeeperScript
after_fault keeper = record keeper { calls = counted keeper.calls; faults = counted keeper.faults }

-- what a start answers
abbrev pub start_answer : KeeperScript → Result ℕ StartFault
start_answer keeper = if is_failing keeper then Err starts.Failed else Ok (length keeper.kept)

abbrev pub after_start : KeeperScript → Result ℕ StartFault → KeeperScript
after_start keeper (Ok told) =
    record keeper { calls = counted keeper.calls; started = true; given = 0; told = told }
after_start keeper (Err fault) = after_fault keeper

abbrev pub after_next : KeeperScript → Result Change NextFault → KeeperScript
after_next keeper (Ok change) = record keeper { calls = counted keeper.calls; given = keeper.given + 1 }
after_next keeper (Err nexts.Failed) = after_fault keeper
after_next keeper (Err nexts.NoMemory) = after_call keeper
after_next keeper (Err nexts.Unreadable) = after_call keeper

abbrev pub after_put : KeeperScript → Change → Result (Unit {0}) PutFault → KeeperScript
after_put keeper change (Ok done) =
    record keeper { calls = counted keeper.calls; kept = keeper.kept ++ change ∷ [] }
after_put keeper change (Err puts.Failed) = after_fault keeper
after_put keeper change (Err puts.NoMemory) = after_call keeper
after_put keeper change (Err puts.Full) = after_call keeper

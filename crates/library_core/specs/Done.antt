-- What becomes of a step: what is answered, and what the keeper has then.
use Rattle.std.specs.Prelude.{◌≡◌, ◌⊎◌, ℕ, ◌+◌, ◌<◌, ◌≤◌, Bool, Option, Some, None, Ok, Err}
use Rattle.media_types.specs.Cause.{Rose}
use Rattle.media_base.specs.declared.change.Change.{Change}
use Rattle.media_base.specs.declared.refusal.Refusal.{Refusal}
use Rattle.media_base.specs.declared.refusal.Refusal.TheVariants as refusals
use Rattle.media_base.specs.declared.reply.Answer.{Answer}
use Rattle.media_base.specs.Keeping.{Readings}
use Rattle.media_base.specs.Replying.{Reply}
use Rattle.library_machine.specs.Opening.{kept_with}
use Rattle.library_machine.specs.Step.{State, Outcome, Answered, change_of}

-- what a keeper tells of what it keeps, of its faults and of its room
pub record Telling (K : Type 0) : Type 0 where
  pub kept : K → Option Readings
  pub alien : K → Option Bool
  pub faults : K → ℕ
  pub used : K → ℕ
  pub units : K → Change → ℕ
  pub limit : K → ℕ

-- the keeper has no room for the change
abbrev pub HasNoRoom : {K : Type 0} → Telling K → K → Change → Type 0
HasNoRoom tells keeper c = tells.limit keeper < tells.used keeper + tells.units keeper c

-- The outcome is answered, and a keeper has its change behind the others where the answer says so. It doesn't have it
-- only for want of memory; or where it has no room, which is told then; or where it failed.
pub record IsDone {K : Type 0} (tells : Telling K) (s : State) (old : K) (o : Outcome) (reply : Reply) (after : State) (new : K) : Type 0 where
  pub answered : Answered s o reply after
  pub kept : tells.kept new ≡ kept_with (change_of o) reply (tells.kept old)
  -- `journal_full` comes exactly where there is a change and no room for it
  pub full : reply ≡ Err refusals.JournalFull → (c : Change) → change_of o ≡ Some c → HasNoRoom tells old c
  pub no_room : (c : Change) → change_of o ≡ Some c → HasNoRoom tells old c
      → (reply ≡ Err refusals.NoMemory) ⊎ (reply ≡ Err refusals.JournalFull)
  -- room is used by the change that is kept alone
  pub same_limit : tells.limit new ≡ tells.limit old
  pub same_units : tells.units new ≡ tells.units old
  pub used : (c : Change) (answer : Answer) → change_of o ≡ Some c → reply ≡ Ok answer
      → tells.used new ≡ tells.used old + tells.units old c
  pub told_used : change_of o ≡ None → tells.used new ≡ tells.used old
  pub same_used : (why : Refusal) → reply ≡ Err why → tells.used new ≡ tells.used old
  -- `not_kept` comes only where the keeper failed
  pub later : tells.faults old ≤ tells.faults new
  pub not_kept : reply ≡ Err refusals.NotKept → Rose (tells.faults old) (tells.faults new)
  pub own : tells.alien new ≡ tells.alien old

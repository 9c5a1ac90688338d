-- What a fault of the keeper becomes.
use Rattle.media_base.specs.declared.keeper.PutFault.{PutFault}
use Rattle.media_base.specs.declared.keeper.PutFault.TheVariants as puts
use Rattle.media_base.specs.declared.keeper.StartFault.{StartFault}
use Rattle.media_base.specs.declared.keeper.StartFault.TheVariants as starts
use Rattle.media_base.specs.declared.refusal.Refusal.{Refusal}
use Rattle.media_base.specs.declared.refusal.Refusal.TheVariants as refusals
use Rattle.library_core.specs.declared.load_fail.LoadFail.{LoadFail}
use Rattle.library_core.specs.declared.load_fail.LoadFail.TheVariants as fails

-- why a library doesn't open whose keeper doesn't start
abbrev pub start_fail : StartFault → LoadFail
start_fail starts.Failed = fails.StoreFault
start_fail starts.NoMemory = fails.NoMemory
start_fail starts.Alien = fails.AlienStore

-- why a command is refused whose change isn't kept
abbrev pub put_refusal : PutFault → Refusal
put_refusal puts.Failed = refusals.NotKept
put_refusal puts.NoMemory = refusals.NoMemory
put_refusal puts.Full = refusals.JournalFull

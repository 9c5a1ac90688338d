use Rattle.std.proofs.Common.{ap, ◌∙◌}
use Rattle.media_base.specs.Scripts.{counted}
use Rattle.media_keeper.specs.Script.{KeeperScript}
use Rattle.media_keeper.proofs.memory_keeper.MemoryKeeper.is_failing_now.Goals as goal

-- the call was counted, and then the fault
pub returns-then-fails-clause-after : goal.returns-then-fails-clause-after
returns-then-fails-clause-after c =
    rw (c.saturating_add-self-inside.ensures, c.if-fails.true) (ap (λ (keeper : KeeperScript). record keeper { faults = counted keeper.faults }) (c.self.view_is ∙ c.count_call.ensures))

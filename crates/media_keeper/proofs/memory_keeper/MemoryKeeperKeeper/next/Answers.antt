use Rattle.std.proofs.Common.{◌+◌, ap, ◌∙◌}
use Rattle.media_keeper.specs.Script.{KeeperScript}
use Rattle.media_keeper.proofs.memory_keeper.MemoryKeeperKeeper.next.Goals as goal

-- a call that fails gives nothing
pub returns-then-is_failing_now-clause-after : goal.returns-then-is_failing_now-clause-after
returns-then-is_failing_now-clause-after c = c.if-is_failing_now.ensures.after

-- one more change was given
pub returns-clause-after : goal.returns-clause-after
returns-clause-after c = ap (λ (keeper : KeeperScript). record keeper { given = keeper.given + 1 }) (c.self.view_is ∙ c.if-is_failing_now.ensures.after)

use Rattle.std.proofs.Common.{◌≡◌, ◌≤◌, ◌++◌, [], ◌∷◌, is_ok, sym, ap, subst, ◌∙◌}
use mathlib.Core.Bool.{false≢true}
use Rattle.media_base.specs.declared.change.Change.{Change}
use Rattle.media_keeper.specs.Script.{KeeperScript}
use Rattle.media_keeper.proofs.memory_keeper.MemoryKeeperKeeper.put.Goals as goal

pub returns-clause-cause : goal.returns-clause-cause
returns-clause-cause c = record {
  later = subst (λ (keeper : KeeperScript). c.args.self.now.faults ≤ keeper.faults) (sym c.self-2.view_is) c.if-is_failing_now.ensures.later;
  rose = λ never. absurd (false≢true (sym (ap is_ok never)));
}

-- the change stands behind what was kept
pub returns-clause-after : goal.returns-clause-after
returns-clause-after c =
    let kept : c.push.new.self ≡ c.self-2.inside.kept ++ c.args.change.now ∷ [] = c.in_ok-push.ensures.ok ∙ ap (λ (change : Change). c.self-2.inside.kept ++ change ∷ []) c.in_ok-change.ensures in
    rw kept (ap (λ (keeper : KeeperScript). record keeper { kept = keeper.kept ++ c.args.change.now ∷ [] }) (c.self-2.view_is ∙ c.if-is_failing_now.ensures.after))

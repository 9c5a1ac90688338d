use Rattle.std.proofs.Common.{Bool, cond, length, Ok, Err, ap, ◌∙◌}
use Rattle.media_base.specs.declared.keeper.StartFault.TheVariants as faults
use Rattle.media_keeper.specs.Script.{KeeperScript}
use Rattle.media_keeper.proofs.memory_keeper.MemoryKeeperKeeper.start.Goals as goal

pub returns-clause-script : goal.returns-clause-script
returns-clause-script c =
    let kept = ap (λ (keeper : KeeperScript). length keeper.kept) (c.self.view_is ∙ c.if-is_failing_now.ensures.after) in
    ap Ok (c.len-self-inside.ensures ∙ kept) ∙ ap (λ (fails : Bool). cond fails (Err faults.Failed) (Ok (length c.args.self.now.kept))) c.if-is_failing_now.ensures.value

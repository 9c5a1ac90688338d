use Rattle.std.proofs.Common.{refl, arith}
use Rattle.media_base.specs.declared.status.Status.TheVariants as statuses
use Rattle.media_tool.specs.Run.{telling}
use Rattle.media_tool.proofs.Plays.{plays_unopened}
use Rattle.media_tool.proofs.program.run.Goals as goal

pub returns-else-is_play-clause-plays : goal.returns-else-is_play-clause-plays
returns-else-is_play-clause-plays g c =
    let keepers = g.K.Keeper in
    plays_unopened (telling keepers.kept keepers.alien keepers.faults keepers.used keepers.units keepers.limit) statuses.Usage (keepers.gives c.args.keeper) c.args.keeper c.args.keeper (g.S.Source.left c.args.source.now) (g.W.Sink.taken c.args.sink.now)
    (λ opened. opened) refl (omega arith)

use Rattle.media_tool.specs.Run.{state_of, telling}
use Rattle.media_tool.proofs.Plays.{plays_nothing, ran_of}
use Rattle.media_tool.proofs.play.play_session.Goals as goal

pub returns-in-Ok-clause-ran : goal.returns-in-Ok-clause-ran
returns-in-Ok-clause-ran g c = ran_of c.play_pieces.result c.play_pieces.ensures.ran

pub returns-in-Ok-clause-unread : goal.returns-in-Ok-clause-unread
returns-in-Ok-clause-unread g c = λ unopened. absurd (unopened c.play_pieces.ensures.ran)

pub returns-in-Err-clause-plays : goal.returns-in-Err-clause-plays
returns-in-Err-clause-plays g c =
    let keepers = g.K.Keeper in
    plays_nothing (telling keepers.kept keepers.alien keepers.faults keepers.used keepers.units keepers.limit) (state_of c.args.session.now.library) (g.S.Source.left c.args.source.now) (g.W.Sink.taken c.args.sink.now)

use Rattle.std.proofs.Common.{◌≤◌}
use Rattle.media_tool.specs.Run.{state_of, telling}
use Rattle.media_tool.proofs.Plays.{PlayedSoFar}
use Rattle.media_tool.proofs.play.play_pieces.Given as goal

abbrev pub invariant-loop-room : goal.invariant-loop-room
invariant-loop-room g l = record {
  later_read : g.S.Source.faults l.fn.source ≤ g.S.Source.faults l.source;
  later_write : g.W.Sink.faults l.fn.sink ≤ g.W.Sink.faults l.sink;
  so_far : PlayedSoFar (telling g.K.Keeper.kept g.K.Keeper.alien g.K.Keeper.faults g.K.Keeper.used g.K.Keeper.units g.K.Keeper.limit)
      (state_of l.fn.session.library) l.room
      (state_of l.session.library) l.session.line (g.S.Source.left l.fn.source) (g.S.Source.left l.source) (g.W.Sink.taken l.fn.sink) (g.W.Sink.taken l.sink);
}

abbrev pub decreases-loop-room : goal.decreases-loop-room
decreases-loop-room g l = l.room

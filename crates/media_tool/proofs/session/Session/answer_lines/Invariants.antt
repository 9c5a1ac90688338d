use Rattle.std.proofs.Common.{◌≤◌, List, ℕ, length}
use Rattle.media_base.specs.Transfer.{Gathered}
use Rattle.media_tool.specs.Kept.{Keeps}
use Rattle.media_tool.specs.Run.{state_of, telling}
use Rattle.media_tool.proofs.Kept.{KeptSoFar}
use Rattle.media_tool.proofs.session.Session.answer_lines.Given as goal

abbrev pub invariant-loop-line : goal.invariant-loop-line
invariant-loop-line g l = record {
  later : g.W.Sink.faults l.fn.sink ≤ g.W.Sink.faults l.sink;
  so_far : (line : List ℕ) → Keeps l.fn.self.line line
      → KeptSoFar (telling g.K.Keeper.kept g.K.Keeper.alien g.K.Keeper.faults g.K.Keeper.used g.K.Keeper.units g.K.Keeper.limit)
      (state_of l.fn.self.library) line l.piece
      (state_of l.self.library) l.self.line l.rest
      (Gathered (g.W.Sink.taken l.fn.sink) l.fn.gather (g.W.Sink.taken l.sink) l.gather);
}

abbrev pub decreases-loop-line : goal.decreases-loop-line
decreases-loop-line g l = length l.rest

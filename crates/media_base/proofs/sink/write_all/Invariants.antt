use Rattle.std.proofs.Common.{◌≡◌, ℕ, List, Option, Result, length}
use Rattle.media_types.specs.declared.fault.Failed.{Failed}
use Rattle.media_base.specs.Transfer.{Sends}
use Rattle.media_base.proofs.sink.write_all.Given as goal

-- what is sent from here on completes the text
abbrev pub invariant-loop-rest : goal.invariant-loop-rest
invariant-loop-rest g l = record {
  quiet : g.W.Sink.faults l.sink ≡ g.W.Sink.faults l.fn.sink;
  completes : (last : Option (List ℕ)) (result : Result (Unit {0}) Failed) → Sends (g.W.Sink.taken l.sink) last l.rest result → Sends (g.W.Sink.taken l.fn.sink) last l.text result;
}

abbrev pub decreases-loop-rest : goal.decreases-loop-rest
decreases-loop-rest g l = length l.rest

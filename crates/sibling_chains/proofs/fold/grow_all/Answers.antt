use Rattle.std.proofs.Common.{arith}
use Rattle.sibling_chains.proofs.Longs.{long-from}
use Rattle.sibling_chains.proofs.fold.grow_all.Goals as goal

pub returns-clause-ok : goal.returns-clause-ok
returns-clause-ok c =
    long-from c.args.tags c.loop-service.ends.items
    (λ s lt. c.loop-service.invariant.long s (omega (arith, lt, c.loop-service-test.false, c.loop-service.invariant.len, c.len-service-end.ensures)))

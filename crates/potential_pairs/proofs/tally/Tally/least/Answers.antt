use Rattle.std.proofs.Common.{sym, arith}
use Rattle.potential_pairs.proofs.Least.{first_counted, never_counted}
use Rattle.potential_pairs.proofs.tally.Tally.least.Goals as goal

pub returns-then-count-gt0-clause-least : goal.returns-then-count-gt0-clause-least
returns-then-count-gt0-clause-least c = sym (first_counted c.args.self.now.counts c.loop-level.level (omega arith) c.loop-level.invariant (omega arith))

pub returns-clause-least : goal.returns-clause-least
returns-clause-least c = sym (never_counted c.args.self.now.counts (λ k inside. c.loop-level.invariant k (omega arith)))

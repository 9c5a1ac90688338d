use Rattle.potential_pairs.proofs.PlannedRows.{of-empty}
use Rattle.potential_pairs.proofs.pairs.Pairs.new.Goals as goal

pub returns-clause-of : goal.returns-clause-of
returns-clause-of c = λ R. of-empty R _ c.new.ensures c.new-3.ensures.pairs c.new-3.ensures.tallies

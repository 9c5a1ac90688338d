use Rattle.std.proofs.Common.{refl}
use Rattle.sibling_chains.specs.Planning.{IsPlanFor, after}
use Rattle.sibling_chains.proofs.siblings.Siblings.plan_order.Goals as goal

pub returns-clause-fits : goal.returns-clause-fits
unfolding IsPlanFor
returns-clause-fits g c = record { service = c.requires; ends = c.in_ok-ends.ensures }

pub returns-clause-after : goal.returns-clause-after
unfolding after
returns-clause-after g c = refl

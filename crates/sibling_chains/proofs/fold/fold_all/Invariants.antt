use Rattle.sibling_chains.specs.Known.{AreEndsFor}
use Rattle.sibling_chains.proofs.fold.fold_all.Given as goal

abbrev pub invariant-loop-order : goal.invariant-loop-order
invariant-loop-order l = AreEndsFor l.tags l.rows l.orders l.ends.items l.order-index

use Rattle.std.proofs.Common.{◌≡◌, false, take}
use Rattle.parent_closure.specs.Reached.{has}
use Rattle.parent_closure.proofs.search.is_in.Given as goal

abbrev pub invariant-loop-other : goal.invariant-loop-other
invariant-loop-other l = has (take l.other-index l.list) l.tag ≡ false

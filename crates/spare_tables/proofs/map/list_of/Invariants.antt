use Rattle.std.proofs.Common.{◌≡◌, ◌++◌, length}
use Rattle.spare_tables.proofs.map.list_of.Given as goal

abbrev pub invariant-loop-row : goal.invariant-loop-row
invariant-loop-row g l = l.list.items ++ l.walk ≡ l.fn.walk

abbrev pub decreases-loop-row : goal.decreases-loop-row
decreases-loop-row g l = length l.walk

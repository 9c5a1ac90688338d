use Rattle.std.proofs.Common.{◌≡◌, take}
use Rattle.std.specs.List.{flat_map}
use Rattle.std.specs.Option.{option_map}
use Rattle.parent_closure.specs.Implied.{chained, steps_by}
use Rattle.parent_closure.proofs.parents.Parents.pairs_among.Given as goal

abbrev pub invariant-loop-of : goal.invariant-loop-of
invariant-loop-of g l = l.pairs.items ≡ flat_map (steps_by (chained (option_map (λ p. p.now) l.chains) l.siblings) l.service.0 l.rows.items) (take l.of-index l.of-items)

use Rattle.std.proofs.Common.{◌≡◌, None, take}
use Rattle.std.specs.Prelude.{find}
use Rattle.std.specs.Option.{option_map}
use Rattle.parent_closure.specs.Ancestors.{is_over}
use Rattle.parent_closure.specs.Implied.{chained, planned, relations_of}
use Rattle.parent_closure.proofs.parents.Parents.first_over.Given as goal

-- none of the tags before is over
abbrev pub invariant-loop-tag : goal.invariant-loop-tag
invariant-loop-tag g l =
    find (is_over l.end (relations_of (planned (option_map (λ p. p.now) l.plan) l.self) (chained (option_map (λ p. p.now) l.chains) l.siblings) l.service.0)) (take l.tag-index l.tags)
    ≡ None

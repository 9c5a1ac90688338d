use Rattle.std.proofs.Common.{◌≡◌, [], drop, slice_get, sym, ap, subst, ◌∙◌}
use Rattle.spare_tables.specs.Firsts.{AscendFrom, of_first}
use Rattle.spare_tables.specs.FirstLaws.{later_ascend, of_first-other}
use Rattle.spare_tables.proofs.first_walk.FirstWalk.next.Given.{Over}
use Rattle.spare_tables.proofs.first_walk.FirstWalk.next.Goals as goal

-- ---- a row of another first number
pub invariant_of-self-then-row-self : goal.invariant_of-self-then-row-self
invariant_of-self-then-row-self g c =
    later_ascend c.self.inside.first c.in_ok-row.row c.next.new.self (subst (AscendFrom c.self.inside.first) c.in_ok-row.ensures.taken c.self.invariant)

none_here : (g : Over) (c : goal.Then-row-self g) → c.args.self.now ≡ []
none_here g c =
    sym c.self.view_is ∙ ap (of_first c.self.inside.first) c.in_ok-row.ensures.taken
    ∙ (of_first-other c.self.inside.first c.in_ok-row.row c.next.new.self (subst (AscendFrom c.self.inside.first) c.in_ok-row.ensures.taken c.self.invariant) c.if-row-self.true).0

pub returns-then-row-self-clause-first : goal.returns-then-row-self-clause-first
returns-then-row-self-clause-first g c = sym (ap (λ rows. slice_get rows 0) (none_here g c))

pub returns-then-row-self-clause-rest : goal.returns-then-row-self-clause-rest
returns-then-row-self-clause-rest g c =
    (of_first-other c.self.inside.first c.in_ok-row.row c.next.new.self (subst (AscendFrom c.self.inside.first) c.in_ok-row.ensures.taken c.self.invariant) c.if-row-self.true).1
    ∙ sym (ap (drop 1) (none_here g c))

pub returns-then-row-self-clause-ended : goal.returns-then-row-self-clause-ended
returns-then-row-self-clause-ended g c = none_here g c

-- ---- a row of this one
pub invariant_of-self-2 : goal.invariant_of-self-2
invariant_of-self-2 g c =
    later_ascend c.self.inside.first c.in_ok-row.row c.next.new.self (subst (AscendFrom c.self.inside.first) c.in_ok-row.ensures.taken c.self.invariant)

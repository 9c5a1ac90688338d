use Rattle.std.proofs.Common.{◌≡◌, ◌==◌, ◌&&◌, false, drop, slice_get, sym, ap, subst, ◌∙◌}
use Rattle.tag_store.specs.Lasts.{AscendFrom, lasts}
use Rattle.tag_store.proofs.LastRows.{fails-first, fails-second, lasts-later, lasts-other, later_ascend}
use Rattle.tag_store.proofs.last_walk.LastWalk.next.Goals as goal
use Rattle.tag_store.proofs.last_walk.LastWalk.next.Goals.{else-key-self-via-then-key-self+else-key-self-2, else-key-self-via-else-key-self}

-- ---- a row of these first numbers
pub invariant_of-self-then-key-self-2 : goal.invariant_of-self-then-key-self-2
invariant_of-self-then-key-self-2 g c =
    let it = c.self.inside in
    later_ascend it.first it.second (c.in_ok-key.key, c.in_ok-key.state) c.next.new.self (subst (AscendFrom it.first it.second) c.in_ok-key.ensures.taken c.self.invariant)

-- ---- a row of others, behind which there is none of these
pub invariant_of-self-2 : goal.invariant_of-self-2
invariant_of-self-2 g c =
    let it = c.self.inside in
    later_ascend it.first it.second (c.in_ok-key.key, c.in_ok-key.state) c.next.new.self (subst (AscendFrom it.first it.second) c.in_ok-key.ensures.taken c.self.invariant)

pub returns-clause-ended : goal.returns-clause-ended
returns-clause-ended g c =
    let it = c.self.inside in
    let key = c.in_ok-key.key in
    let fails : key.0 == it.first && key.1 == it.second ≡ false = elim c.else-key-self.branch [
      | else-key-self-via-then-key-self+else-key-self-2 w ↦ fails-second key.0 it.first key.1 it.second w.if-key-self-2.false
      | else-key-self-via-else-key-self w ↦ fails-first key.0 it.first key.1 it.second w.if-key-self.false
    ] in
    let taken = c.in_ok-key.ensures.taken in
    sym c.self.view_is ∙ ap (lasts it.first it.second) taken
    ∙ lasts-other it.first it.second (key, c.in_ok-key.state) c.next.new.self (subst (AscendFrom it.first it.second) taken c.self.invariant) fails

pub returns-clause-first : goal.returns-clause-first
returns-clause-first g c = sym (ap (λ rows. slice_get rows 0) (returns-clause-ended g c))

pub returns-clause-rest : goal.returns-clause-rest
returns-clause-rest g c =
    let it = c.self.inside in
    let none = returns-clause-ended g c in
    lasts-later it.first it.second (c.in_ok-key.key, c.in_ok-key.state) c.next.new.self (sym (ap (lasts it.first it.second) c.in_ok-key.ensures.taken) ∙ c.self.view_is ∙ none)
    ∙ sym (ap (drop 1) none)

use Rattle.std.proofs.Common.{◌≡◌, ◌∙◌, sym, subst, set, ap, rules}
use Rattle.sibling_chains.specs.Recorded.{removed_at}
use Rattle.parent_closure.specs.Kept.{AreKept}
use Rattle.parent_closure.proofs.Places.{kept-removed}
use Rattle.parent_closure.proofs.parents.Parents.remove.Goals as goal

pub invariant_of-self : goal.invariant_of-self
invariant_of-self c =
    let s = c.self.inside in
    let number : c.from.result ≡ c.args.it.number = search rules in
    let gone : set s.rows.rows c.args.it.number c.args.it.row ≡ removed_at c.args.it.number s.rows.rows = rw (← c.self.view_is) at c.requires.gone in
    let new = c.set.ensures.rows ∙ ap (λ n. set s.rows.rows n c.args.it.row) number ∙ gone in
    subst (λ l. AreKept l s.children.labels s.tags) (sym new) (kept-removed c.args.it.number s.rows.rows s.children.labels s.tags c.self.invariant)

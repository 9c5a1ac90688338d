use Rattle.std.proofs.Common.{◌∙◌, ◌≤◌, ◌++◌, ◌∷◌, [], ap, arith, length, length-append, subst, sym, slice_set}
use Rattle.tag_types.specs.declared.limits.TheConstants.{MAX_RELATIONS}
use Rattle.sibling_chains.specs.declared.sibling_plan.Adding.{Adding}
use Rattle.sibling_chains.specs.declared.sibling_plan.Ordered.{Ordered}
use Rattle.sibling_chains.specs.declared.sibling_plan.Removing.{Removing}
use Rattle.sibling_chains.specs.declared.sibling_plan.Tying.{Tying}
use Rattle.sibling_chains.specs.Known.{IsSame, Known}
use Rattle.sibling_chains.specs.Planning.{IsAdding, IsChangeFor, IsOrdering, IsPlanFor, IsRemoving, IsTying, after, changed, row_of}
use Rattle.sibling_chains.specs.Recorded.{removed_at, standing_place}
use Rattle.sibling_chains.proofs.siblings.Siblings.commit.Goals as goal

pub add-requires-clause-fits : goal.add-requires-clause-fits
unfolding IsPlanFor
add-requires-clause-fits c = subst (λ it. IsAdding c.args.self.now it) (sym c.in-Add.it-is) (subst (λ change. IsChangeFor change c.args.self.now) c.in-Add.is c.requires.fits)

pub add-requires-clause-few : goal.add-requires-clause-few
unfolding after
add-requires-clause-few c =
    let v : Known = c.args.self.now in
    let few : length (changed c.args.plan.change v).rows ≤ MAX_RELATIONS = c.requires.few in
    let added = subst (λ change. length (changed change v).rows ≤ MAX_RELATIONS) c.in-Add.is few in
    omega (arith, added, length-append v.rows)

pub remove-requires : goal.remove-requires
unfolding IsPlanFor
remove-requires c = subst (λ it. IsRemoving c.args.self.now it) (sym c.in-Remove.it-is) (subst (λ change. IsChangeFor change c.args.self.now) c.in-Remove.is c.requires.fits)

pub tie-requires : goal.tie-requires
unfolding IsPlanFor
tie-requires c = subst (λ it. IsTying c.args.self.now it) (sym c.in-Tie.it-is) (subst (λ change. IsChangeFor change c.args.self.now) c.in-Tie.is c.requires.fits)

pub order-requires : goal.order-requires
unfolding IsPlanFor
order-requires c = subst (λ it. IsOrdering c.args.self.now it) (sym c.in-Order.it-is) (subst (λ change. IsChangeFor change c.args.self.now) c.in-Order.is c.requires.fits)

pub returns-in-Add-clause-after : goal.returns-in-Add-clause-after
unfolding after
returns-in-Add-clause-after c =
    let v : Known = c.args.self.now in
    subst (λ change. IsSame c.add.new.self (changed change v)) (sym c.in-Add.is) (record {
      rows = c.add.ensures.rows ∙ ap (λ (it : Adding). v.rows ++ row_of it ∷ []) c.in-Add.it-is;
      ties = c.add.ensures.ties;
      orders = c.add.ensures.orders;
      tags = c.add.ensures.tags;
    })

pub returns-in-Remove-clause-after : goal.returns-in-Remove-clause-after
unfolding after
returns-in-Remove-clause-after c =
    let v : Known = c.args.self.now in
    subst (λ change. IsSame c.remove.new.self (changed change v)) (sym c.in-Remove.is) (record {
      rows = c.remove.ensures.rows ∙ ap (λ (it : Removing). removed_at (standing_place it.service.0 it.bad.0 v.rows) v.rows) c.in-Remove.it-is;
      ties = c.remove.ensures.ties;
      orders = c.remove.ensures.orders;
      tags = c.remove.ensures.tags;
    })

pub returns-in-Tie-clause-after : goal.returns-in-Tie-clause-after
unfolding after
returns-in-Tie-clause-after c =
    let v : Known = c.args.self.now in
    subst (λ change. IsSame c.tie.new.self (changed change v)) (sym c.in-Tie.is) (record {
      rows = c.tie.ensures.rows;
      ties = c.tie.ensures.ties ∙ ap (λ (it : Tying). v.ties ++ (it.a.0, it.b.0) ∷ []) c.in-Tie.it-is;
      orders = c.tie.ensures.orders;
      tags = c.tie.ensures.tags;
    })

pub returns-in-Order-clause-after : goal.returns-in-Order-clause-after
unfolding after
returns-in-Order-clause-after c =
    let v : Known = c.args.self.now in
    subst (λ change. IsSame c.order.new.self (changed change v)) (sym c.in-Order.is) (record {
      rows = c.order.ensures.rows;
      ties = c.order.ensures.ties;
      orders = c.order.ensures.orders ∙ ap (λ (it : Ordered). slice_set v.orders it.service.0 it.order) c.in-Order.it-is;
      tags = c.order.ensures.tags;
    })

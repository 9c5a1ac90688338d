use Rattle.std.proofs.Common.{◌≡◌, ◌∙◌, ◌++◌, ◌∷◌, [], sym, subst}
use Rattle.sibling_chains.specs.Ends.{at}
use Rattle.sibling_chains.specs.Known.{Known, ideal_in}
use Rattle.sibling_chains.specs.Planning.{IsAdding, IsChangeFor, IsOrdering, IsPlanFor, IsRemoving, after, changed, row_of}
use Rattle.sibling_chains.specs.Clustered.{is_of_two}
use Rattle.sibling_chains.specs.Recorded.{removed_at, standing_place}
use Rattle.sibling_chains.proofs.Refolding.{changes-add, changes-removal, ordered-at, refolded-at}
use Rattle.sibling_chains.proofs.sibling_plan.SiblingPlan.ideal.Goals as goal

pub ideal-requires-clause-count : goal.ideal-requires-clause-count
unfolding IsPlanFor
ideal-requires-clause-count c =
    let fits : IsAdding c.args.base.now c.in-Add.it = subst (λ change. IsChangeFor change c.args.base.now) c.in-Add.is c.requires.fits in
    fits.refold.ends.count

pub ideal-requires-clause-long : goal.ideal-requires-clause-long
unfolding IsPlanFor
ideal-requires-clause-long c =
    let fits : IsAdding c.args.base.now c.in-Add.it = subst (λ change. IsChangeFor change c.args.base.now) c.in-Add.is c.requires.fits in
    fits.refold.ends.long c.args.service.0 c.requires.service

pub returns-in-Add : goal.returns-in-Add
unfolding IsPlanFor after
returns-in-Add c =
    let v : Known = c.args.base.now in
    let it = c.in-Add.it in
    let fits : IsAdding v it = subst (λ change. IsChangeFor change v) c.in-Add.is c.requires.fits in
    subst (λ change. c.ideal.result.0 ≡ ideal_in (changed change v) c.args.service.0 c.args.tag.0) (sym c.in-Add.is)
    (c.ideal.ensures
    ∙ refolded-at v.rows (v.rows ++ row_of it ∷ []) v.orders it.refold.ends.items it.refold.cluster.tags.items (is_of_two v.rows v.ties it.bad.0 it.good.0)
    fits.refold.ends fits.refold.cluster.whole (changes-add v.rows v.ties (row_of it)) c.args.service.0 c.args.tag.0 c.requires.service)

pub ideal-requires-in-Remove-clause-count : goal.ideal-requires-in-Remove-clause-count
unfolding IsPlanFor
ideal-requires-in-Remove-clause-count c =
    let fits : IsRemoving c.args.base.now c.in-Remove.it = subst (λ change. IsChangeFor change c.args.base.now) c.in-Remove.is c.requires.fits in
    fits.refold.ends.count

pub ideal-requires-in-Remove-clause-long : goal.ideal-requires-in-Remove-clause-long
unfolding IsPlanFor
ideal-requires-in-Remove-clause-long c =
    let fits : IsRemoving c.args.base.now c.in-Remove.it = subst (λ change. IsChangeFor change c.args.base.now) c.in-Remove.is c.requires.fits in
    fits.refold.ends.long c.args.service.0 c.requires.service

pub returns-in-Remove : goal.returns-in-Remove
unfolding IsPlanFor after
returns-in-Remove c =
    let v : Known = c.args.base.now in
    let it = c.in-Remove.it in
    let fits : IsRemoving v it = subst (λ change. IsChangeFor change v) c.in-Remove.is c.requires.fits in
    subst (λ change. c.ideal-in-Remove.result.0 ≡ ideal_in (changed change v) c.args.service.0 c.args.tag.0) (sym c.in-Remove.is)
    (c.ideal-in-Remove.ensures
    ∙ refolded-at v.rows (removed_at (standing_place it.service.0 it.bad.0 v.rows) v.rows) v.orders it.refold.ends.items it.refold.cluster.tags.items (is_of_two v.rows v.ties it.bad.0 it.bad.0)
    fits.refold.ends fits.refold.cluster.whole (changes-removal v.rows v.ties it.service it.bad.0 fits.stands) c.args.service.0 c.args.tag.0 c.requires.service)

pub returns-in-Tie : goal.returns-in-Tie
unfolding after
returns-in-Tie c =
    subst (λ change. c.ideal-in-Tie.result.0 ≡ ideal_in (changed change c.args.base.now) c.args.service.0 c.args.tag.0) (sym c.in-Tie.is) c.ideal-in-Tie.ensures

pub returns-in-Order : goal.returns-in-Order
unfolding IsPlanFor after
returns-in-Order c =
    let v : Known = c.args.base.now in
    let it = c.in-Order.it in
    let fits : IsOrdering v it = subst (λ change. IsChangeFor change v) c.in-Order.is c.requires.fits in
    subst (λ change. c.ideal-in-Order.result.0 ≡ ideal_in (changed change v) c.args.service.0 c.args.tag.0) (sym c.in-Order.is)
    (c.ideal-in-Order.ensures
    ∙ ordered-at v.orders it.order v.rows it.service.0 c.args.service.0 c.args.tag.0 (at it.ends c.args.tag.0) fits.service (fits.ends c.args.tag.0))

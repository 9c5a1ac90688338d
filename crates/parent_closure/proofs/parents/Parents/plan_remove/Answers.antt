use Rattle.std.proofs.Common.{◌≡◌, ap, subst, rules, Some, Bool}
use Rattle.sibling_chains.specs.declared.relation_row.RelationRow.{RelationRow}
use Rattle.sibling_chains.specs.Recorded.{removed_at}
use Rattle.parent_closure.specs.Kept.{IsFirstPlace, is_pair}
use Rattle.parent_closure.specs.Planning.{IsPlanFor, after}
use Rattle.parent_closure.proofs.Places.{set-one}
use Rattle.parent_closure.proofs.parents.Parents.plan_remove.Goals as goal

pub returns-clause-fits : goal.returns-clause-fits
unfolding IsPlanFor
returns-clause-fits g c =
    let number = c.unwrap-number.result in
    let test : RelationRow → Bool = is_pair c.args.service.0 c.args.child.0 c.args.parent.0 in
    let found : c.place_of.result ≡ Some number = search rules in
    let place = subst (IsFirstPlace test c.args.self.now.rows) found c.place_of.ensures.place in
    record { within = place.2; gone = set-one c.args.self.now.rows number c.row.result c.row.ensures.row }

pub returns-clause-after : goal.returns-clause-after
unfolding after
returns-clause-after g c =
    let number = c.unwrap-number.result in
    let test : RelationRow → Bool = is_pair c.args.service.0 c.args.child.0 c.args.parent.0 in
    let found : c.place_of.result ≡ Some number = search rules in
    let place = subst (IsFirstPlace test c.args.self.now.rows) found c.place_of.ensures.place in
    ap (λ n. record c.args.self.now { rows = removed_at n c.args.self.now.rows }) place.1

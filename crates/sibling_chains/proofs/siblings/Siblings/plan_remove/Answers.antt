use Rattle.std.proofs.Common.{◌≡◌, ◌∙◌, ◌<◌, List, IsSome, sym, ap, subst}
use Rattle.sibling_chains.specs.declared.relation_row.RelationRow.{RelationRow}
use Rattle.sibling_chains.specs.Clustered.{rows_but}
use Rattle.sibling_chains.specs.Following.{good_of}
use Rattle.sibling_chains.specs.Known.{Known}
use Rattle.sibling_chains.specs.Planning.{IsPlanFor, IsRefold, after}
use Rattle.sibling_chains.specs.Recorded.{pairs_of, removed_at, standing_at, standing_place}
use Rattle.sibling_chains.proofs.Refolding.{but-standing}
use Rattle.sibling_chains.proofs.siblings.Siblings.plan_remove.Goals as goal

pub returns-clause-fits : goal.returns-clause-fits
unfolding IsPlanFor
returns-clause-fits g c =
    let same = sym c.in_ok-reserve_row.ensures.same in
    let v : Known = c.reserve_row.new.self in
    let b = c.args.bad.0 in
    let place : c.place_of-gone.result ≡ standing_at c.args.service.0 b v.rows = rw (← c.self.view_is) c.place_of-gone.ensures.place in
    record {
      bad = subst (λ (known : Known). b < known.tags) same c.requires.bad;
      stands = subst (λ (known : Known). IsSome (good_of (pairs_of known.rows c.args.service) b)) same c.requires.stands;
      room = c.in_ok-reserve_row.ensures.ok;
      refold = subst (λ l. IsRefold v b b l c.in_ok-refold.refold) (ap (λ o. rows_but o v.rows) place ∙ but-standing c.args.service.0 b v.rows) c.in_ok-refold.ensures.refold;
    }

pub returns-clause-after : goal.returns-clause-after
unfolding after
returns-clause-after g c =
    let v : Known = c.reserve_row.new.self in
    let rows = ap (λ (known : Known). known.rows) c.in_ok-reserve_row.ensures.same in
    ap (λ (l : List RelationRow). record v { rows = removed_at (standing_place c.args.service.0 c.args.bad.0 l) l }) rows

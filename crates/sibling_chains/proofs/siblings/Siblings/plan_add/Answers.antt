use Rattle.std.proofs.Common.{◌≡◌, ◌<◌, ◌++◌, ◌∷◌, [], List, length, None, true, sym, ap, subst}
use Rattle.sibling_chains.specs.declared.relation_row.RelationRow.{RelationRow}
use Rattle.sibling_chains.specs.Following.{good_of}
use Rattle.sibling_chains.specs.Known.{Known}
use Rattle.sibling_chains.specs.Planning.{IsPlanFor, after}
use Rattle.sibling_chains.specs.Recorded.{pairs_of}
use Rattle.sibling_chains.proofs.siblings.Siblings.plan_add.Goals as goal

pub returns-clause-fits : goal.returns-clause-fits
unfolding IsPlanFor
returns-clause-fits g c =
    let same = sym c.in_ok-reserve_row.ensures.same in
    record {
      service = subst (λ (v : Known). c.args.service.0 < length v.orders) same c.requires.service;
      bad = subst (λ (v : Known). c.args.bad.0 < v.tags) same c.requires.bad;
      good = subst (λ (v : Known). c.args.good.0 < v.tags) same c.requires.good;
      new = subst (λ (v : Known). good_of (pairs_of v.rows c.args.service) c.args.bad.0 ≡ None) same c.requires.new;
      room = c.in_ok-reserve_row.ensures.ok;
      refold = c.in_ok-refold.ensures.refold;
    }

pub returns-clause-after : goal.returns-clause-after
unfolding after
returns-clause-after g c =
    let v : Known = c.reserve_row.new.self in
    let rows = ap (λ (known : Known). known.rows) c.in_ok-reserve_row.ensures.same in
    ap (λ (l : List RelationRow). record v { rows = l ++ (record { service = c.args.service; first = c.args.bad; second = c.args.good; standing = true }) ∷ [] }) rows

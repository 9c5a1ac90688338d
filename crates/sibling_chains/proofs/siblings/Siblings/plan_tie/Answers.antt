use Rattle.std.proofs.Common.{◌<◌, ◌++◌, ◌∷◌, [], List, sym, ap, subst}
use Rattle.sibling_chains.specs.Following.{Pair}
use Rattle.sibling_chains.specs.Known.{Known}
use Rattle.sibling_chains.specs.Planning.{IsPlanFor, after}
use Rattle.sibling_chains.proofs.siblings.Siblings.plan_tie.Goals as goal

pub returns-clause-fits : goal.returns-clause-fits
unfolding IsPlanFor
returns-clause-fits g c =
    let same = sym c.in_ok-reserve_row.ensures.same in
    let cluster = c.in_ok-cluster.ensures.cluster in
    record {
      a = subst (λ (v : Known). c.args.a.0 < v.tags) same c.requires.a;
      b = subst (λ (v : Known). c.args.b.0 < v.tags) same c.requires.b;
      room = c.in_ok-reserve_row.ensures.ok;
      cluster = rw (← c.self.view_is) (record { label = cluster.label; tags = cluster.tags; rows = cluster.rows; whole = cluster.whole });
    }

pub returns-clause-after : goal.returns-clause-after
unfolding after
returns-clause-after g c =
    let v : Known = c.reserve_row.new.self in
    let ties = ap (λ (known : Known). known.ties) c.in_ok-reserve_row.ensures.same in
    ap (λ (l : List Pair). record v { ties = l ++ (c.args.a.0, c.args.b.0) ∷ [] }) ties

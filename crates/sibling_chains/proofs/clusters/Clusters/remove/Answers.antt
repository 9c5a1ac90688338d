use Rattle.std.proofs.Common.{sym, subst}
use Rattle.sibling_chains.specs.Clustered.{AreClustered}
use Rattle.sibling_chains.specs.Recorded.{standing_place}
use Rattle.sibling_chains.proofs.Joining.{clustered-removal}
use Rattle.sibling_chains.proofs.clusters.Clusters.remove.Goals as goal

pub invariant_of-self : goal.invariant_of-self
invariant_of-self c =
    let s = c.self.inside in
    subst (λ l. AreClustered l s.ties.rows s.tags.labels s.rows.labels) (sym c.remove.ensures.rows)
    (clustered-removal s.pairs.rows s.ties.rows s.tags.labels s.rows.labels (standing_place c.args.service.0 c.args.bad.0 s.pairs.rows) c.self.invariant)

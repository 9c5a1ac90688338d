use Rattle.std.proofs.Common.{◌∙◌, ◌<◌, ◌++◌, ◌∷◌, [], length, sym, ap, subst}
use Rattle.tag_types.specs.declared.limits.TheConstants.{MAX_TAGS}
use Rattle.sibling_chains.specs.Clustered.{AreClustered}
use Rattle.sibling_chains.proofs.Joining.{clustered-tag}
use Rattle.sibling_chains.proofs.clusters.Clusters.add_tag.Goals as goal

pub invariant_of-self : goal.invariant_of-self
invariant_of-self c =
    let s = c.self.inside in
    let few : length s.tags.labels < MAX_TAGS = rw (← c.self.view_is) at c.requires.few in
    let new = c.push.ensures.labels ∙ ap (λ n. s.tags.labels ++ n ∷ []) c.len-tag.ensures in
    subst (λ l. AreClustered s.pairs.rows s.ties.rows l s.rows.labels) (sym new)
    (clustered-tag s.pairs.rows s.ties.rows s.tags.labels s.rows.labels c.self.invariant few)

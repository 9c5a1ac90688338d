use Rattle.std.proofs.Common.{◌<◌, true, None, Some, refl}
use Rattle.parent_closure.specs.LimitLaws.{AreBelow}
use Rattle.sibling_chains.specs.declared.relation_row.RelationRow.{RelationRow}
use Rattle.tag_relations.specs.Related.{Related}
use Rattle.tag_relations.proofs.Planned.{sibling-fits}
use Rattle.tag_relations.proofs.relations.TagRelations.plan_sibling.Goals as goal

pub returns-clause-fits : goal.returns-clause-fits
returns-clause-fits g c =
    let o : Related = record { siblings = c.self.inside.siblings; parents = c.self.inside.parents } in
    let known : AreBelow o.siblings.tags o.siblings.rows = rw (← c.self.view_is) at c.tags-tags.ensures.siblings in
    let also : AreBelow o.siblings.tags o.parents.rows = rw (← c.self.view_is) at c.tags-tags.ensures.parents in
    let bad : c.args.bad.0 < o.siblings.tags = rw (← c.self.view_is) at c.requires.bad in
    let good : c.args.good.0 < o.siblings.tags = rw (← c.self.view_is) at c.requires.good in
    let row : RelationRow = record { service = c.args.service; first = c.args.bad; second = c.args.good; standing = true } in
    sibling-fits o c.self.invariant known also c.plan_add.new.self c.plan_add.ensures.same
    (record { touched = c.in_ok-touched.touched; siblings = Some c.in_ok-siblings.siblings; parents = None }) c.in_ok-siblings.siblings row refl refl bad good
    c.in_ok-touched.ensures.tags c.in_ok-siblings.ensures.fits c.in_ok-siblings.ensures.after

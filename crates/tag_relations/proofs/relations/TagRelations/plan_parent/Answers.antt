use Rattle.std.proofs.Common.{◌<◌, true, Some, refl}
use Rattle.parent_closure.specs.LimitLaws.{AreBelow}
use Rattle.sibling_chains.specs.declared.relation_row.RelationRow.{RelationRow}
use Rattle.tag_relations.specs.Related.{Related}
use Rattle.tag_relations.proofs.Planned.{parent-fits-both}
use Rattle.tag_relations.proofs.relations.TagRelations.plan_parent.Goals as goal

pub returns-clause-fits : goal.returns-clause-fits
returns-clause-fits g c =
    let o : Related = record { siblings = c.self.inside.siblings; parents = c.self.inside.parents } in
    let known : AreBelow o.siblings.tags o.siblings.rows = rw (← c.self.view_is) at c.tags-tags.ensures.siblings in
    let also : AreBelow o.siblings.tags o.parents.rows = rw (← c.self.view_is) at c.tags-tags.ensures.parents in
    let child : c.args.child.0 < o.siblings.tags = rw (← c.self.view_is) at c.requires.child in
    let parent : c.args.parent.0 < o.siblings.tags = rw (← c.self.view_is) at c.requires.parent in
    let row : RelationRow = record { service = c.args.service; first = c.args.child; second = c.args.parent; standing = true } in
    parent-fits-both o c.self.invariant known also c.plan_tie.new.self c.plan_tie.ensures.same c.plan_add.new.self c.plan_add.ensures.same
    (record { touched = c.in_ok-touched.touched; siblings = Some c.in_ok-siblings.siblings; parents = Some c.in_ok-parents.parents }) c.in_ok-siblings.siblings c.in_ok-parents.parents row refl refl child parent
    c.in_ok-touched.ensures.tags c.in_ok-siblings.ensures.fits c.in_ok-siblings.ensures.after c.in_ok-parents.ensures.fits c.in_ok-parents.ensures.after

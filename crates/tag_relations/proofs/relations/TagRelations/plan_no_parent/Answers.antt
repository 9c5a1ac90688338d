use Rattle.std.proofs.Common.{◌<◌, None, Some, refl, subst}
use Rattle.parent_closure.specs.LimitLaws.{AreBelow}
use Rattle.tag_relations.specs.Planning.{IsPlanFor}
use Rattle.tag_relations.specs.Related.{Related}
use Rattle.tag_relations.specs.declared.plans.RelationPlan.{RelationPlan}
use Rattle.tag_relations.proofs.Planned.{no-parent-fits, removal-reads}
use Rattle.tag_relations.proofs.relations.TagRelations.plan_no_parent.Goals as goal

pub returns-clause-fits : goal.returns-clause-fits
returns-clause-fits g c =
    let o : Related = record { siblings = c.self.inside.siblings; parents = c.self.inside.parents } in
    let known : AreBelow o.siblings.tags o.siblings.rows = rw (← c.self.view_is) at c.tags-tags.ensures.siblings in
    let also : AreBelow o.siblings.tags o.parents.rows = rw (← c.self.view_is) at c.tags-tags.ensures.parents in
    let child : c.args.child.0 < o.siblings.tags = rw (← c.self.view_is) at c.requires.child in
    let plan : RelationPlan = record { touched = c.in_ok-touched.touched; siblings = None; parents = Some c.plan_remove-parents.result } in
    let fits : IsPlanFor plan o =
    no-parent-fits o c.self.invariant known also plan c.plan_remove-parents.result c.args.service.0 c.args.child.0 c.args.parent.0 refl refl child
    c.in_ok-touched.ensures.tags c.plan_remove-parents.ensures.fits c.plan_remove-parents.ensures.after in
    subst (IsPlanFor plan) c.self.view_is fits

pub returns-clause-reads : goal.returns-clause-reads
returns-clause-reads g c =
    let o : Related = record { siblings = c.self.inside.siblings; parents = c.self.inside.parents } in
    rw (← c.self.view_is) (removal-reads o c.args.child.0 c.args.steps.now c.tags_of_two.new.steps c.plan_remove-parents.new.steps c.self.invariant c.tags_of_two.ensures.steps c.plan_remove-parents.ensures.reads)

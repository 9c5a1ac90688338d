use Rattle.std.proofs.Common.{◌<◌, None, Some, refl}
use Rattle.parent_closure.specs.LimitLaws.{AreBelow}
use Rattle.tag_relations.specs.Related.{Related}
use Rattle.tag_relations.proofs.Planned.{no-sibling-fits}
use Rattle.tag_relations.proofs.relations.TagRelations.plan_no_sibling.Goals as goal

pub returns-clause-fits : goal.returns-clause-fits
returns-clause-fits g c =
    let o : Related = record { siblings = c.self.inside.siblings; parents = c.self.inside.parents } in
    let known : AreBelow o.siblings.tags o.siblings.rows = rw (← c.self.view_is) at c.tags-tags.ensures.siblings in
    let also : AreBelow o.siblings.tags o.parents.rows = rw (← c.self.view_is) at c.tags-tags.ensures.parents in
    let bad : c.args.bad.0 < o.siblings.tags = rw (← c.self.view_is) at c.requires.bad in
    no-sibling-fits o c.self.invariant known also c.plan_remove.new.self c.plan_remove.ensures.same
    (record { touched = c.in_ok-touched.touched; siblings = Some c.in_ok-siblings.siblings; parents = None }) c.in_ok-siblings.siblings c.args.service.0 c.args.bad.0 refl refl bad
    c.in_ok-touched.ensures.tags c.in_ok-siblings.ensures.fits c.in_ok-siblings.ensures.after

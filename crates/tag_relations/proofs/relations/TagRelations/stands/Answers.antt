use Rattle.tag_relations.specs.Related.{Related}
use Rattle.tag_relations.proofs.Planned.{look-reads}
use Rattle.tag_relations.proofs.relations.TagRelations.stands.Goals as goal

pub returns-clause-reads : goal.returns-clause-reads
returns-clause-reads g c =
    let o : Related = record { siblings = c.self.inside.siblings; parents = c.self.inside.parents } in
    rw (← c.self.view_is) (look-reads o c.args.child.0 c.args.steps.now c.stands.new.steps c.stands.ensures.reads)

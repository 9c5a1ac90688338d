use Rattle.parent_closure.specs.Implied.{relations_of}
use Rattle.parent_closure.proofs.AllTags.{closed-read}
use Rattle.parent_closure.proofs.tests.cases.assert_ancestors.Goals as goal

pub ancestors-requires-clause-closed : goal.ancestors-requires-clause-closed
ancestors-requires-clause-closed g c =
    closed-read c.as_slice.result.now c.in_ok-tags.tags.items (relations_of c.args.parents.now c.args.siblings.now c.args.service) c.as_slice.ensures.value (c.in_ok-tags.ensures.closed c.args.service)

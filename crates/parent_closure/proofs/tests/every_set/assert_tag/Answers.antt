use Rattle.parent_closure.specs.Implied.{relations_of}
use Rattle.parent_closure.proofs.AllTags.{closed-read}
use Rattle.parent_closure.proofs.tests.every_set.assert_tag.Goals as goal

pub ancestors-requires-clause-closed : goal.ancestors-requires-clause-closed
ancestors-requires-clause-closed g c =
    closed-read c.as_slice.result.now c.in_ok-tags.tags.items (relations_of c.args.parents.now c.args.siblings.now 0) c.as_slice.ensures.value (c.in_ok-tags.ensures.closed 0)

pub implied_after-requires-clause-closed : goal.implied_after-requires-clause-closed
implied_after-requires-clause-closed g c =
    closed-read c.as_slice-2.result.now c.in_ok-tags.tags.items (relations_of c.args.parents.now c.args.siblings.now 0) c.as_slice-2.ensures.value (c.in_ok-tags.ensures.closed 0)

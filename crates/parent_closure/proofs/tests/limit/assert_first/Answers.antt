use Rattle.parent_closure.specs.Implied.{relations_of}
use Rattle.parent_closure.proofs.AllTags.{closed-read}
use Rattle.parent_closure.proofs.tests.limit.assert_first.Goals as goal

pub first_over-requires-clause-closed : goal.first_over-requires-clause-closed
first_over-requires-clause-closed g c =
    closed-read c.as_slice.result.now c.in_ok-tags.tags.items (relations_of c.args.parents.now c.args.siblings.now 0) c.as_slice.ensures.value (c.in_ok-tags.ensures.closed 0)

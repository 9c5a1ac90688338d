use Rattle.std.proofs.Common.{◌≡◌, ◌≤◌, ◌+◌, ◌*◌, None, length}
use Rattle.std.specs.List.{range_with_len}
use Rattle.parent_closure.specs.Limits.{first_some, over_in}
use Rattle.parent_closure.specs.Reached.{has}
use Rattle.sibling_chains.specs.Clusters.{rows_within}
use Rattle.tag_relations.specs.Planning.{after}
use Rattle.tag_relations.specs.Related.{relations_at}
use Rattle.tag_relations.proofs.relations.TagRelations.first_over.Given as goal

-- no service before would have one, and each was looked at once
abbrev pub invariant-loop-number : goal.invariant-loop-number
invariant-loop-number g l = record {
  none : first_some (over_in l.end (relations_at (after l.plan l.self)) l.plan.touched.items) (range_with_len 0 l.number) ≡ None;
  reads : l.steps ≤ l.fn.steps + l.number * (length l.plan.touched.items + 2 * length (rows_within (has l.plan.touched.items) l.self.parents.rows));
}

use Rattle.std.proofs.Common.{◌≡◌, ◌≤◌, ◌+◌, ◌*◌, length, take}
use Rattle.std.specs.List.{flat_map}
use Rattle.sibling_chains.specs.Clustered.{rows_but}
use Rattle.parent_closure.specs.Kept.{rows_of}
use Rattle.parent_closure.proofs.parents.Parents.rows_but.Given as goal

abbrev pub invariant-loop-tag : goal.invariant-loop-tag
invariant-loop-tag g l = record {
  rows : l.rows.items ≡ flat_map (rows_of (rows_but l.gone l.self.rows)) (take l.tag-index l.tags);
  reads : l.steps ≤ l.fn.steps + (l.tag-index + 2 * length (flat_map (rows_of l.self.rows) (take l.tag-index l.tags)));
}

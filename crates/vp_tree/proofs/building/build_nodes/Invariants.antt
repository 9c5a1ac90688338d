use Rattle.std.proofs.Common.{◌≡◌, ◌≤◌, ◌+◌, ◌*◌, ◌++◌, All, length, map, sum_by}
use Rattle.media_types.specs.declared.limits.TheConstants.{MAX_WORDS}
use Rattle.vp_tree.specs.Building.{built_of}
use Rattle.vp_tree.proofs.Built.{left_built}
use Rattle.vp_tree.proofs.building.build_nodes.Given as goal

abbrev pub invariant-loop-part : goal.invariant-loop-part
invariant-loop-part l = record {
  few : All (λ ps. length ps ≤ MAX_WORDS) (map (λ v. v.items) l.stack.items);
  left : l.nodes.items ++ left_built (map (λ v. v.items) l.stack.items) ≡ built_of l.fn.points.items;
}

abbrev pub decreases-loop-part : goal.decreases-loop-part
decreases-loop-part l = sum_by (λ ps. 2 * length ps + 1) (map (λ v. v.items) l.stack.items)

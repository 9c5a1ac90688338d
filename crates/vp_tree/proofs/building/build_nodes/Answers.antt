use Rattle.media_types.specs.declared.limits.TheConstants.{MAX_WORDS}
use Rattle.vp_tree.proofs.Built.{stack-smaller, stack-few, stack-left}
use Rattle.vp_tree.proofs.building.build_nodes.Goals as goal

pub loop-part-smaller : goal.loop-part-smaller
loop-part-smaller c =
    stack-smaller (λ v. v.items) c.loop-part.stack.items c.pop.new.self.items c.build_first.new.stack.items c.in-Some.part _
    c.in-Some.ensures.items c.deref.ensures.value c.in_ok-build_first.ensures.stack

pub loop-part-preserved : goal.loop-part-preserved
loop-part-preserved c = record {
  few = stack-few MAX_WORDS (λ v. v.items) c.loop-part.stack.items c.pop.new.self.items c.build_first.new.stack.items c.in-Some.part _
      c.in-Some.ensures.items c.deref.ensures.value c.in_ok-build_first.ensures.stack c.loop-part.invariant.few;
  left = stack-left (λ v. v.items) c.loop-part.stack.items c.pop.new.self.items c.build_first.new.stack.items c.in-Some.part _ _ _ _
      c.in-Some.ensures.items c.deref.ensures.value c.in_ok-build_first.ensures.stack c.in_ok-build_first.ensures.nodes c.loop-part.invariant.left;
}

use Rattle.std.proofs.Common.{◌≡◌, [], length, arith, rules}
use Rattle.std.proofs.lemmas.List.{nil_from_length}
use Rattle.std.proofs.lemmas.List.Sorted.{IsNonDecreasingBy-from_sort_by_key}
use Rattle.std.proofs.lemmas.List.Sums.{sum_by-cons}
use Rattle.media_types.specs.declared.numbers.HashNo.{HashNo}
use Rattle.vp_tree.specs.Nodes.{size}
use Rattle.vp_tree.proofs.Collecting.{number_in, collecting-first, collecting-more, taken-within, size-taken, collected}
use Rattle.vp_tree.proofs.branch.collect_points.Goals as goal

pub loop-at-init : goal.loop-at-init
loop-at-init g c = record {
  collecting = rw (c.in_ok-push.ensures.items, c.new-stack.ensures.items, c.new-points.ensures.items) (collecting-first c.args.table.now.rows c.args.top c.requires.top);
  counted = rw (c.in_ok-push.ensures.items, c.new-stack.ensures.items)
      (omega (arith, sum_by-cons (λ (s : HashNo). size c.args.table.now.rows s.0) c.args.top []));
}

pub collect_point-requires : goal.collect_point-requires
collect_point-requires g c = taken-within _ _ _ _ _ (rw c.in-Some.ensures.items at c.loop-at.invariant.collecting)

pub loop-at-smaller : goal.loop-at-smaller
loop-at-smaller g c =
    let inside = taken-within _ _ _ _ _ (rw c.in-Some.ensures.items at c.loop-at.invariant.collecting) in
    omega (
      arith,
      size-taken c.args.table.now.rows c.loop-at.stack.items c.pop.new.self.items c.collect_point.new.stack.items c.in-Some.at c.requires.tree inside
          c.in-Some.ensures.items c.in_ok-collect_point.ensures.stack,
    )

pub loop-at-preserved : goal.loop-at-preserved
loop-at-preserved g c =
    let before = rw c.in-Some.ensures.items at c.loop-at.invariant.collecting in
    let inside = taken-within _ _ _ _ _ before in
    record {
      collecting = rw (c.in_ok-collect_point.ensures.stack, c.in_ok-collect_point.ensures.points)
          (collecting-more c.args.table.now.rows c.args.top.0 c.loop-at.points.items c.pop.new.self.items c.in-Some.at c.requires.tree before);
      counted = omega (
        arith,
        size-taken c.args.table.now.rows c.loop-at.stack.items c.pop.new.self.items c.collect_point.new.stack.items c.in-Some.at c.requires.tree inside
            c.in-Some.ensures.items c.in_ok-collect_point.ensures.stack,
        c.loop-at.invariant.counted,
        c.in_ok-collect_point.ensures.steps,
      );
    }

pub returns-clause-points : goal.returns-clause-points
returns-clause-points g c =
    let empty : length c.loop-at.stack.items ≡ 0 = omega (arith, c.loop-at.stack.ok.0, c.in_default.ensures.cases.0) in
    collected c.args.table.now.rows c.args.top.0 c.loop-at.points.items _ c.requires.tree c.requires.top
    (rw (nil_from_length c.loop-at.stack.items empty) at c.loop-at.invariant.collecting)
    c.sort_unstable_by_key.ensures.permutation
    (IsNonDecreasingBy-from_sort_by_key number_in _ c.sort_unstable_by_key.ensures.sorted (λ a r q k. search rules))

use Rattle.std.proofs.Common.{◌≡◌, ℕ, length, arith, rules}
use Rattle.std.proofs.lemmas.List.Sorted.{IsNonDecreasingBy-from_sort_by_key}
use Rattle.media_types.specs.declared.numbers.HashNo.{HashNo}
use Rattle.vp_tree.proofs.Finding.{reads-taken, read-left, taken-inside, searching-more, searching-done}
use Rattle.vp_tree.proofs.Sorting.{sorted-found}
use Rattle.vp_tree.proofs.tree.Tree.search.Goals as goal

pub loop-at-smaller : goal.loop-at-smaller
loop-at-smaller g c =
    let inside = taken-inside _ _ _ _ _ _ (rw c.in-Some.ensures.items at c.loop-at.invariant.searching) in
    omega (
      arith,
      reads-taken c.args.self.now.rows c.args.query c.args.within c.loop-at.stack.items c.pop.new.self.items c.visit.new.stack.items c.in-Some.at
          c.len.ensures.tree inside c.in-Some.ensures.items c.in_ok-visit.ensures.stack,
    )

pub loop-at-preserved : goal.loop-at-preserved
loop-at-preserved g c =
    let before = rw c.in-Some.ensures.items at c.loop-at.invariant.searching in
    let inside = taken-inside _ _ _ _ _ _ before in
    record {
      searching = rw (c.in_ok-visit.ensures.stack, c.in_ok-visit.ensures.hits)
          (searching-more c.args.self.now.rows c.args.query c.args.within c.loop-at.hits.items c.pop.new.self.items c.in-Some.at c.len.ensures.tree before);
      counted = omega (
        arith,
        reads-taken c.args.self.now.rows c.args.query c.args.within c.loop-at.stack.items c.pop.new.self.items c.visit.new.stack.items c.in-Some.at
            c.len.ensures.tree inside c.in-Some.ensures.items c.in_ok-visit.ensures.stack,
        c.loop-at.invariant.counted,
        c.in_ok-visit.ensures.steps,
      );
    }

pub returns-in_err-visit-clause-at_most : goal.returns-in_err-visit-clause-at_most
returns-in_err-visit-clause-at_most g c =
    let inside = taken-inside _ _ _ _ _ _ (rw c.in-Some.ensures.items at c.loop-at.invariant.searching) in
    omega (
      arith,
      read-left c.args.self.now.rows c.args.query c.args.within c.loop-at.stack.items c.pop.new.self.items c.in-Some.at c.len.ensures.tree inside
          c.in-Some.ensures.items,
      c.loop-at.invariant.counted,
      c.in_err-visit.ensures.steps,
    )

pub returns-clause-found : goal.returns-clause-found
returns-clause-found g c =
    let empty : length c.loop-at.stack.items ≡ 0 = omega (arith, c.loop-at.stack.ok.0, c.in_default.ensures.cases.0) in
    rw c.from_rows.ensures
    (sorted-found c.args.self.now.rows c.args.query c.args.within c.loop-at.hits.items _
    (searching-done _ _ _ _ c.loop-at.stack.items empty c.loop-at.invariant.searching)
    c.sort_unstable_by_key.ensures.permutation
    (IsNonDecreasingBy-from_sort_by_key (λ (h : HashNo × ℕ). h.0.0) _ c.sort_unstable_by_key.ensures.sorted (λ a r q k. search rules)))

use Rattle.std.proofs.Common.{◌∙◌, ℕ, List, ap, arith}
use Rattle.sibling_chains.specs.Following.{Pair}
use Rattle.parent_closure.specs.Reached.{has, with_parents}
use Rattle.parent_closure.proofs.Searching.{ended, fewer-by, first-by, longer-by, next-by}
use Rattle.parent_closure.proofs.search.reached_from.Goals as goal

pub loop-at-init : goal.loop-at-init
loop-at-init c =
    let pairs : List Pair = c.args.pairs.now in
    record {
      within = omega arith;
      begun = first-by pairs c.args.start c.put_parents.new.found (c.in_ok-put_parents.ensures ∙ ap (with_parents c.args.start pairs) c.new-reached.ensures);
    }

pub loop-at-smaller : goal.loop-at-smaller
loop-at-smaller c =
    let pairs : List Pair = c.args.pairs.now in
    let reached : List ℕ = c.loop-at.reached in
    let x = c.get-tag.result in
    let list = c.put_parents-in-loop-at.new.found in
    let few = fewer-by pairs c.args.start c.loop-at.at reached x list c.loop-at.invariant.begun (omega (arith, c.loop-at-test.true, c.len.ensures)) c.get-tag.ensures c.in_ok-put_parents-2.ensures in
    let more = longer-by x pairs reached list c.in_ok-put_parents-2.ensures in
    omega (arith, few, more, c.loop-at-test.true, c.len.ensures)

pub loop-at-preserved : goal.loop-at-preserved
loop-at-preserved c =
    let pairs : List Pair = c.args.pairs.now in
    let reached : List ℕ = c.loop-at.reached in
    let x = c.get-tag.result in
    let list = c.put_parents-in-loop-at.new.found in
    let more = longer-by x pairs reached list c.in_ok-put_parents-2.ensures in
    record {
      within = omega (arith, more, c.loop-at-test.true, c.len.ensures);
      begun = next-by pairs c.args.start c.loop-at.at reached x list c.loop-at.invariant.begun (omega (arith, c.loop-at-test.true, c.len.ensures)) c.get-tag.ensures c.in_ok-put_parents-2.ensures;
    }

pub returns : goal.returns
returns c = λ b.
    ap (λ (l : List ℕ). has l b) c.into_tags.ensures
    ∙ ended c.args.pairs.now c.args.start c.loop-at.at c.loop-at.reached c.loop-at.invariant.begun (omega (arith, c.loop-at-test.false, c.len.ensures)) b

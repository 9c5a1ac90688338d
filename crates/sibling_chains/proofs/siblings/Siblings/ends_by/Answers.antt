use Rattle.std.proofs.Common.{◌∙◌, ℕ, List, cond, length, sym, ap, arith}
use Rattle.std.proofs.lemmas.Bool.{le-ltb}
use Rattle.std.proofs.lemmas.List.FromFn.{length-range_with_len}
use Rattle.sibling_chains.specs.Ends.{at}
use Rattle.sibling_chains.specs.Known.{label_in}
use Rattle.sibling_chains.specs.Recorded.{ideal}
use Rattle.sibling_chains.proofs.Lists.{at-first}
use Rattle.sibling_chains.proofs.Refolding.{all-ends}
use Rattle.sibling_chains.proofs.siblings.Siblings.ends_by.Goals as goal

pub loop-label-init : goal.loop-label-init
loop-label-init g c = record {
  long = ap (λ (l : List ℕ). length l) c.in_ok-ends.ensures ∙ length-range_with_len 0 c.tags-tags.result;
  ends = λ t.
      ap (λ (l : List ℕ). at l t) c.in_ok-ends.ensures ∙ ap (λ (f : ℕ → ℕ). f t) (at-first c.tags-tags.result)
      ∙ sym (ap (λ b. cond b (ideal c.args.order.now c.args.self.now.rows t) t) (le-ltb (label_in c.args.self.now t) 0 (omega arith)));
}

pub returns : goal.returns
returns g c = λ t.
    let v = c.args.self.now in
    all-ends v.rows v.ties c.args.order.now v.tags c.loop-label.label t (at c.loop-label.ends t) c.tags-tags.ensures.known
    (omega (arith, c.loop-label-test.false, c.tags-tags.ensures.tags)) (c.loop-label.invariant.ends t)

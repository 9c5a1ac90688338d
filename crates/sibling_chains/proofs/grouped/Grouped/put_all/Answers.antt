use Rattle.std.proofs.Common.{◌≡◌, ◌∙◌, ◌<◌, ◌==◌, ◌||◌, ℕ, Bool, true, false, List, cond, refl, length, get_or, take, sym, ap, arith}
use Rattle.std.proofs.Math.ListN.{length-set}
use Rattle.std.specs.List.{list_any}
use Rattle.std.proofs.lemmas.List.{take_all}
use Rattle.std.proofs.lemmas.List.Elements.{All-get_or}
use Rattle.std.proofs.lemmas.List.Folds.{list_any_more}
use Rattle.sibling_chains.specs.Ends.{at}
use Rattle.sibling_chains.proofs.GroupLists.{at-set}
use Rattle.sibling_chains.proofs.grouped.Grouped.put_all.Goals as goal

either-way : (any here : Bool) (label old : ℕ) → cond here label (cond any label old) ≡ cond (any || here) label old
either-way true true label old = refl
either-way true false label old = refl
either-way false true label old = refl
either-way false false label old = refl

pub put-requires : goal.put-requires
put-requires c =
    let known = All-get_or (λ n. n < length c.args.self.now.labels) c.args.numbers.now c.loop-number.number-index 0 c.loop-number-test.true c.requires in
    omega (arith, known, c.loop-number.invariant.len)

pub loop-number-preserved : goal.loop-number-preserved
loop-number-preserved c =
    let numbers : List ℕ = c.args.numbers.now in
    let i = c.loop-number.number-index in
    let n : ℕ = get_or numbers i 0 in
    let known = All-get_or (λ n. n < length c.args.self.now.labels) numbers i 0 c.loop-number-test.true c.requires in
    let labels : List ℕ = c.loop-number.self.labels in
    record {
      len = ap (λ (l : List ℕ). length l) c.put.ensures.labels ∙ length-set labels n c.args.label ∙ c.loop-number.invariant.len;
      labels = λ k. ap (λ (l : List ℕ). at l k) c.put.ensures.labels ∙ at-set labels n c.args.label k (omega (arith, known, c.loop-number.invariant.len))
          ∙ ap (cond (n == k) c.args.label) (c.loop-number.invariant.labels k)
          ∙ either-way (list_any (λ m. m == k) (take i numbers)) (n == k) c.args.label (at c.args.self.now.labels k)
          ∙ ap (λ b. cond b c.args.label (at c.args.self.now.labels k)) (sym (list_any_more (λ m. m == k) numbers i 0 c.loop-number-test.true));
      spare = omega (arith, c.put.ensures.spare, c.loop-number.invariant.spare);
    }

pub returns-clause-labels : goal.returns-clause-labels
returns-clause-labels c = λ k.
    let numbers : List ℕ = c.args.numbers.now in
    let end = take_all c.loop-number.number-index numbers (omega (arith, c.loop-number-test.false)) in
    c.loop-number.invariant.labels k ∙ ap (λ l. cond (list_any (λ n. n == k) l) c.args.label (at c.args.self.now.labels k)) end

use Rattle.std.proofs.Common.{◌≡◌, ◌∙◌, ◌-◌, ℕ, List, [], ◌∷◌, ◌++◌, Bool, length, sym, ap, arith, rules, ◌<◌}
use Rattle.std.proofs.lemmas.List.{length_push}
use Rattle.sibling_chains.specs.Ends.{at}
use Rattle.sibling_chains.specs.Grouping.{is_either}
use Rattle.sibling_chains.specs.NumberLaws.{passed-end, passed-le, passed-next}
use Rattle.sibling_chains.proofs.grouped.Grouped.members.Goals as goal

pub returns-in_err-push-clause-steps : goal.returns-in_err-push-clause-steps
returns-in_err-push-clause-steps g c =
    let labels : List ℕ = c.args.self.now.labels in
    let test : ℕ → Bool = λ n. is_either c.args.a c.args.b (at labels n) in
    let from = c.loop-number.from in
    let all = passed-le test from (length labels - from) (length labels) (omega (arith, c.loop-number.invariant.within)) in
    let list = ap length c.loop-number.invariant.list in
    omega (arith, all, list, c.loop-number.invariant.steps, c.next_of_two.ensures.steps)

pub overflow_add-from : goal.overflow_add-from
overflow_add-from g c =
    let few : length c.args.self.now.labels < 4294967295 = rw (← c.self.view_is) c.self.invariant.few in
    omega (arith, few, c.in-Some.ensures.next.0)

pub loop-number-preserved : goal.loop-number-preserved
loop-number-preserved g c =
    let labels : List ℕ = c.args.self.now.labels in
    let test : ℕ → Bool = λ n. is_either c.args.a c.args.b (at labels n) in
    let number = c.in-Some.number in
    let list = c.loop-number.list.items in
    let len = length_push list number in
    let pushed : c.push.new.self.items ≡ list ++ number ∷ [] = c.in_ok-push.ensures.items in
    let size = ap length pushed in
    record {
      list = pushed ∙ ap (λ l. l ++ number ∷ []) c.loop-number.invariant.list ∙ sym (passed-next (length labels) test c.loop-number.from number c.in-Some.ensures.next);
      within = omega (arith, c.in-Some.ensures.next.0);
      steps = omega (arith, size, len, c.loop-number.invariant.steps, c.next_of_two.ensures.steps);
    }

pub returns-clause-members : goal.returns-clause-members
returns-clause-members g c =
    let labels : List ℕ = c.args.self.now.labels in
    let test : ℕ → Bool = λ n. is_either c.args.a c.args.b (at labels n) in
    c.loop-number.invariant.list ∙ sym (passed-end (length labels) test c.loop-number.from c.loop-number.invariant.within (search (rules, c.in_default.ensures.next)))

pub returns-clause-steps : goal.returns-clause-steps
returns-clause-steps g c =
    let labels : List ℕ = c.args.self.now.labels in
    let test : ℕ → Bool = λ n. is_either c.args.a c.args.b (at labels n) in
    let from = c.loop-number.from in
    let all = passed-le test from (length labels - from) (length labels) (omega (arith, c.loop-number.invariant.within)) in
    let list = ap length c.loop-number.invariant.list in
    omega (arith, all, list, c.loop-number.invariant.steps, c.next_of_two.ensures.steps)

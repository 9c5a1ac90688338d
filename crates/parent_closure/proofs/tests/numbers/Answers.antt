use Rattle.std.proofs.Common.{◌≡◌, ◌∙◌, ◌+◌, ℕ, List, [], ◌∷◌, ◌++◌, ap, sym, add-one, arith}
use Rattle.std.specs.List.{range_with_len}
use Rattle.sibling_chains.specs.NumberLaws.{range-more}
use Rattle.parent_closure.proofs.tests.numbers.Goals as goal

pub loop-number-preserved : goal.loop-number-preserved
loop-number-preserved c =
    let n : ℕ = c.loop-number.number in
    let same : n ≡ 0 + n = omega arith in
    c.in_ok-push.ensures.items
    ∙ ap (λ (l : List ℕ). l ++ n ∷ []) c.loop-number.invariant
    ∙ ap (λ (k : ℕ). range_with_len 0 n ++ k ∷ []) same
    ∙ sym (ap (range_with_len 0) (add-one n) ∙ range-more 0 n)

use Rattle.std.proofs.Common.{◌≡◌, All, take}
use Rattle.potential_pairs.proofs.tests.agree.Given as goal

abbrev pub invariant-loop-pair : goal.invariant-loop-pair
invariant-loop-pair l = All (λ a. All (λ b. a.0 ≡ b.0 → a.1 ≡ b.1 → a.2 ≡ b.2) l.found) (take l.pair-index l.found)

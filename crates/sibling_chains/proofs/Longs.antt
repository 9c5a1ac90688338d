-- Lists of ends that are long enough.
use Rattle.std.proofs.Common.{◌≡◌, ◌<◌, ◌≤◌, ℕ, zero, suc, true, leb, List, [], ◌∷◌, length, get_or, refl, arith}
use Rattle.std.proofs.lemmas.Bool.{and_from, and_parts, le-leb, leb-true}
use Rattle.sibling_chains.specs.Known.{are_long}

pub long-from : (n : ℕ) (ends : List (List ℕ)) → ((s : ℕ) → s < length ends → n ≤ length (get_or ends s [])) → are_long n ends ≡ true
long-from n [] h = refl
long-from n (e ∷ ends) h = and_from (leb n (length e)) (are_long n ends) (le-leb n (length e) (h 0 (omega arith))) (long-from n ends (λ s lt. h (suc s) (omega (arith, lt))))

pub long-at : (n : ℕ) (ends : List (List ℕ)) → are_long n ends ≡ true → (s : ℕ) → s < length ends → n ≤ length (get_or ends s [])
long-at n [] h s lt = absurd (omega (arith, lt))
long-at n (e ∷ ends) h zero lt = leb-true n (length e) (and_parts (leb n (length e)) (are_long n ends) h).0
long-at n (e ∷ ends) h (suc s) lt = long-at n ends (and_parts (leb n (length e)) (are_long n ends) h).1 s (omega (arith, lt))

-- Numbers from 0 that pass a test, and what passes of a list.
use Rattle.std.proofs.Common.{◌≡◌, ◌∙◌, ◌⊎◌, ℕ, zero, suc, ◌+◌, ◌-◌, ◌<◌, ◌≤◌, ◌==◌, ◌&&◌, ◌||◌, Bool, true, false, cond, ltb, List, [], ◌∷◌, ◌++◌, length, map, filter, get_or, Some, None, refl, sym, ap, inl, inr, add-one, arith}
use Rattle.std.specs.List.{list_any, range_with_len}
use Rattle.std.proofs.lemmas.Bool.{cases_eq, cases_lt, eq-eqb, ne_eqb, false_from_ne_true, lt-ltb, le-ltb}
use Rattle.std.proofs.lemmas.List.{append_assoc, length_push}
use Rattle.std.proofs.lemmas.List.Elements.{filter-append}
use Rattle.std.proofs.lemmas.List.Folds.{list_any-append}
use Rattle.sibling_chains.specs.Grouping.{IsNext}

-- one more number
pub range-more : (a n : ℕ) → range_with_len a (suc n) ≡ range_with_len a n ++ (a + n) ∷ []
range-more a zero = ap (λ k. k ∷ []) (omega arith)
range-more a (suc n) = ap (λ l. a ∷ l) (range-more (a + 1) n ∙ ap (λ k. range_with_len (a + 1) n ++ k ∷ []) (omega arith))

-- one more number passes, or not
pub passed-more : (test : ℕ → Bool) (n : ℕ) → filter test (range_with_len 0 (suc n)) ≡ filter test (range_with_len 0 n) ++ cond (test n) (n ∷ []) []
passed-more test n =
    ap (filter test) (range-more 0 n ∙ ap (λ k. range_with_len 0 n ++ k ∷ []) (omega arith))
    ∙ filter-append test (range_with_len 0 n) (n ∷ [])

append-none : {X : Type 0} (xs : List X) → xs ++ [] ≡ xs
append-none [] = refl
append-none (x ∷ xs) = ap (λ l. x ∷ l) (append-none xs)

-- where none passes from a place on
pub passed-none : (test : ℕ → Bool) (from k m : ℕ) → m ≡ from + k → ((j : ℕ) → from ≤ j → j < m → test j ≡ false)
    → filter test (range_with_len 0 m) ≡ filter test (range_with_len 0 from)
passed-none test from zero m e h = ap (λ n. filter test (range_with_len 0 n)) (omega (arith, e))
passed-none test from (suc k) m e h =
    let last : m ≡ suc (from + k) = omega (arith, e) in
    let no : test (from + k) ≡ false = h (from + k) (omega arith) (omega (arith, e)) in
    ap (λ n. filter test (range_with_len 0 n)) last
    ∙ passed-more test (from + k)
    ∙ ap (λ b. filter test (range_with_len 0 (from + k)) ++ cond b ((from + k) ∷ []) []) no
    ∙ append-none (filter test (range_with_len 0 (from + k)))
    ∙ passed-none test from k (from + k) refl (λ j le lt. h j le (omega (arith, lt, e)))

-- the next one that passes is the next of the list
pub passed-next : (n : ℕ) (test : ℕ → Bool) (from m : ℕ) → IsNext n test from (Some m)
    → filter test (range_with_len 0 (m + 1)) ≡ filter test (range_with_len 0 from) ++ m ∷ []
passed-next n test from m next =
    ap (λ k. filter test (range_with_len 0 k)) (add-one m)
    ∙ passed-more test m
    ∙ ap (λ b. filter test (range_with_len 0 m) ++ cond b (m ∷ []) []) next.2
    ∙ ap (λ l. l ++ m ∷ []) (passed-none test from (m - from) m (omega (arith, next.1))
    (λ j le lt. false_from_ne_true (test j) (λ yes. omega (arith, next.3 j (omega (arith, lt, next.0)) le yes, lt))))

-- no more passes
pub passed-end : (n : ℕ) (test : ℕ → Bool) (from : ℕ) → from ≤ n → IsNext n test from None
    → filter test (range_with_len 0 n) ≡ filter test (range_with_len 0 from)
passed-end n test from le none =
    passed-none test from (n - from) n (omega (arith, le))
    (λ j low lt. false_from_ne_true (test j) (λ yes. omega (arith, none j lt yes, low)))

-- no fewer pass of more numbers
pub passed-le : (test : ℕ → Bool) (from k m : ℕ) → m ≡ from + k → length (filter test (range_with_len 0 from)) ≤ length (filter test (range_with_len 0 m))
passed-le test from zero m e = let same = ap (λ n. length (filter test (range_with_len 0 n))) (let s : m ≡ from = omega (arith, e) in s) in omega (arith, same)
passed-le test from (suc k) m e =
    let before = passed-le test from k (from + k) refl in
    let here : length (filter test (range_with_len 0 m)) ≡ length (filter test (range_with_len 0 (from + k)) ++ cond (test (from + k)) ((from + k) ∷ []) []) = ap (λ n. length (filter test (range_with_len 0 n))) (let s : m ≡ suc (from + k) = omega (arith, e) in s) ∙ ap length (passed-more test (from + k)) in
    let more = length-more (filter test (range_with_len 0 (from + k))) (cond (test (from + k)) ((from + k) ∷ []) []) in
    omega (arith, before, here, more)
  where
    length-more : (xs ys : List ℕ) → length xs ≤ length (xs ++ ys)
    length-more [] ys = omega arith
    length-more (x ∷ xs) ys = omega (arith, length-more xs ys)

-- tests that agree below n
pub passed-same : (p q : ℕ → Bool) (n : ℕ) → ((k : ℕ) → k < n → p k ≡ q k) → filter p (range_with_len 0 n) ≡ filter q (range_with_len 0 n)
passed-same p q zero h = refl
passed-same p q (suc n) h =
    passed-more p n
    ∙ ap (λ l. l ++ cond (p n) (n ∷ []) []) (passed-same p q n (λ k lt. h k (omega (arith, lt))))
    ∙ ap (λ b. filter q (range_with_len 0 n) ++ cond b (n ∷ []) []) (h n (omega arith))
    ∙ sym (passed-more q n)

get-front : {X : Type 0} (front xs : List X) (x d : X) → get_or (front ++ x ∷ xs) (length front) d ≡ x
get-front [] xs x d = refl
get-front (y ∷ front) xs x d = get-front front xs x d

by-place : {X : Type 0} (p : X → Bool) (d : X) (all front xs : List X) (n : ℕ) → all ≡ front ++ xs → n ≡ length front
    → filter p xs ≡ map (λ k. get_or all k d) (filter (λ k. p (get_or all k d)) (range_with_len n (length xs)))
by-place p d all front [] n e f = refl
by-place {X} p d all front (x ∷ xs) n e f =
    let here : get_or all n d ≡ x = ap (λ (l : List X). get_or l n d) e ∙ ap (λ k. get_or (front ++ x ∷ xs) k d) f ∙ get-front front xs x d in
    let next : all ≡ (front ++ x ∷ []) ++ xs = e ∙ sym (append_assoc front (x ∷ []) xs) in
    by (p x) here (by-place p d all (front ++ x ∷ []) xs (n + 1) next (omega (arith, f, length_push front x)))
  where
    by : (b : Bool) → get_or all n d ≡ x
        → filter p xs ≡ map (λ k. get_or all k d) (filter (λ k. p (get_or all k d)) (range_with_len (n + 1) (length xs)))
        → filter p (x ∷ xs) ≡ map (λ k. get_or all k d) (filter (λ k. p (get_or all k d)) (n ∷ range_with_len (n + 1) (length xs)))
    by b here rest = rw here (either (p x) here rest)
      where
        either : (b : Bool) → get_or all n d ≡ x
            → filter p xs ≡ map (λ k. get_or all k d) (filter (λ k. p (get_or all k d)) (range_with_len (n + 1) (length xs)))
            → cond b (x ∷ filter p xs) (filter p xs)
            ≡ map (λ k. get_or all k d) (cond b (n ∷ filter (λ k. p (get_or all k d)) (range_with_len (n + 1) (length xs))) (filter (λ k. p (get_or all k d)) (range_with_len (n + 1) (length xs))))
        either true here rest = (λ i. sym here i ∷ rest i)
        either false here rest = rest

-- what passes of a list, by the places at which it stands
pub filter-by-place : {X : Type 0} (p : X → Bool) (d : X) (xs : List X) → filter p xs ≡ map (λ k. get_or xs k d) (filter (λ k. p (get_or xs k d)) (range_with_len 0 (length xs)))
filter-by-place p d xs = by-place p d xs [] xs 0 refl refl

-- what stands among the numbers below n that pass
pub any-passed : (test : ℕ → Bool) (n k : ℕ) → list_any (λ m. m == k) (filter test (range_with_len 0 n)) ≡ (ltb k n && test k)
any-passed test zero k = rw (le-ltb k 0 (omega arith)) refl
any-passed test (suc n) k =
    ap (list_any (λ m. m == k)) (passed-more test n)
    ∙ list_any-append (λ m. m == k) (filter test (range_with_len 0 n)) (cond (test n) (n ∷ []) [])
    ∙ ap (λ b. b || list_any (λ m. m == k) (cond (test n) (n ∷ []) [])) (any-passed test n k)
    ∙ last (cases_eq n k)
  where
    none-here : (b : Bool) → (n == k) ≡ false → list_any (λ m. m == k) (cond b (n ∷ []) []) ≡ false
    none-here true e = rw e refl
    none-here false e = refl

    one-here : (b : Bool) → (n == k) ≡ true → list_any (λ m. m == k) (cond b (n ∷ []) []) ≡ b
    one-here true e = rw e refl
    one-here false e = refl

    or-false : (b : Bool) → (b || false) ≡ b
    or-false true = refl
    or-false false = refl

    last : (n ≡ k) ⊎ (n ≡ k → ⊥) → ((ltb k n && test k) || list_any (λ m. m == k) (cond (test n) (n ∷ []) [])) ≡ (ltb k (suc n) && test k)
    last (inl same) = rw (one-here (test n) (eq-eqb n k same), le-ltb k n (omega (arith, same)), lt-ltb k (suc n) (omega (arith, same))) (ap test same)
    last (inr differ) = rw (none-here (test n) (ne_eqb n k differ)) (or-false (ltb k n && test k) ∙ ap (λ b. b && test k) (elim (cases_lt k n) [
      | inl less ↦ rw (lt-ltb k n less, lt-ltb k (suc n) (omega (arith, less))) refl
      | inr more ↦ let far : suc n ≤ k = omega (arith, more, differ) in rw (le-ltb k n more, le-ltb k (suc n) far) refl
    ]))

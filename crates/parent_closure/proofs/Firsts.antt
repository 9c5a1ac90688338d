-- The first of a list that passes a test, as it is looked for.
use Rattle.std.proofs.Common.{◌≡◌, ◌∙◌, ◌+◌, ◌<◌, ◌==◌, ◌||◌, ℕ, zero, suc, Bool, true, false, cond, nat_lt, Some, None, List, [], ◌∷◌, length, filter, take, get_or, refl, sym, ap, add-one, arith}
use Rattle.std.specs.Prelude.{find}
use Rattle.std.specs.List.{range_with_len}
use Rattle.std.proofs.lemmas.Bool.{eq-eqb, le-ltb, or_left, or_right}
use Rattle.sibling_chains.specs.Following.{Pair}
use Rattle.tag_types.specs.declared.limits.TheConstants.{MAX_IMPLIED}
use Rattle.parent_closure.specs.Ancestors.{Relations, ideal_of, implied, is_above, is_over}
use Rattle.parent_closure.specs.CountLaws.{few-implied}
use Rattle.parent_closure.specs.Reached.{has}
use Rattle.parent_closure.specs.Sets.{HaveSame, IsClosedFor, steps_within}
use Rattle.parent_closure.specs.SetLaws.{within-implied}

-- none before it passes, and it does
pub found-at : (test : ℕ → Bool) (xs : List ℕ) (i : ℕ) → i < length xs → find test (take i xs) ≡ None → test (get_or xs i 0) ≡ true → find test xs ≡ Some (get_or xs i 0)
found-at test [] i lt none here = absurd (omega (arith, lt))
found-at test (x ∷ xs) zero lt none here = rw here refl
found-at test (x ∷ xs) (suc i) lt none here = by (test x) none (λ e. found-at test xs i (omega (arith, lt)) e here) where
  by : (b : Bool) → cond b (Some x) (find test (take i xs)) ≡ None → (find test (take i xs) ≡ None → find test xs ≡ Some (get_or xs i 0))
      → cond b (Some x) (find test xs) ≡ Some (get_or xs i 0)
  by true e rest = absurd (cc e)
  by false e rest = rest e

-- none before it passes, nor does it
none-suc : (test : ℕ → Bool) (xs : List ℕ) (i : ℕ) → i < length xs → find test (take i xs) ≡ None → test (get_or xs i 0) ≡ false → find test (take (suc i) xs) ≡ None
none-suc test [] i lt none here = absurd (omega (arith, lt))
none-suc test (x ∷ xs) zero lt none here = rw here refl
none-suc test (x ∷ xs) (suc i) lt none here = by (test x) none (λ e. none-suc test xs i (omega (arith, lt)) e here) where
  by : (b : Bool) → cond b (Some x) (find test (take i xs)) ≡ None → (find test (take i xs) ≡ None → find test (take (suc i) xs) ≡ None)
      → cond b (Some x) (find test (take (suc i) xs)) ≡ None
  by true e rest = absurd (cc e)
  by false e rest = rest e

pub none-more : (test : ℕ → Bool) (xs : List ℕ) (i : ℕ) → i < length xs → find test (take i xs) ≡ None → test (get_or xs i 0) ≡ false → find test (take (i + 1) xs) ≡ None
none-more test xs i lt none here = ap (λ n. find test (take n xs)) (add-one i) ∙ none-suc test xs i lt none here

or-true : (b : Bool) → (b || true) ≡ true
or-true true = refl
or-true false = refl

pub has-at : (list : List ℕ) (i : ℕ) → i < length list → has list (get_or list i 0) ≡ true
has-at [] i lt = absurd (omega (arith, lt))
has-at (x ∷ list) zero lt = rw (eq-eqb x x refl) refl
has-at (x ∷ list) (suc i) lt = ap (λ (b : Bool). (get_or list i 0 == x) || b) (has-at list i (omega (arith, lt))) ∙ or-true (get_or list i 0 == x)

-- what was listed says whether the tag is over
pub over-by : (S : ℕ → Bool) (R : Relations) (pairs : List Pair) (ideal end t : ℕ) (list : List ℕ) → IsClosedFor S R → HaveSame pairs (steps_within S R) → S t ≡ true
    → ideal ≡ ideal_of R t → list ≡ filter (λ b. b == ideal || is_above pairs ideal b) (range_with_len 0 end) → is_over end R t ≡ nat_lt MAX_IMPLIED (length list)
over-by S R pairs ideal end t list closed same here is_ideal is_list =
    let listed : list ≡ implied end R t =
    is_list ∙ ap (λ i. filter (λ b. b == i || is_above pairs i b) (range_with_len 0 end)) is_ideal ∙ within-implied S R pairs closed same end t here in
    ap (λ (l : List ℕ). nat_lt MAX_IMPLIED (length l)) (sym listed)

-- none of a list passes
pub none-of : (test : ℕ → Bool) (xs : List ℕ) → ((x : ℕ) → has xs x ≡ true → test x ≡ false) → find test xs ≡ None
none-of test [] h = refl
none-of test (x ∷ xs) h =
    let this : test x ≡ false = h x (or_left (x == x) (has xs x) (eq-eqb x x refl)) in
    rw this (none-of test xs (λ y there. h y (or_right (y == x) (has xs y) there)))

-- few pairs make no tag imply too many
pub none-over : (S : ℕ → Bool) (R : Relations) (pairs : List Pair) (end t : ℕ) → IsClosedFor S R → HaveSame pairs (steps_within S R) → S t ≡ true
    → length pairs < MAX_IMPLIED → is_over end R t ≡ false
none-over S R pairs end t closed same here few =
    let i = ideal_of R t in
    let count = few-implied pairs i end in
    over-by S R pairs i end t (filter (λ b. b == i || is_above pairs i b) (range_with_len 0 end)) closed same here refl refl
    ∙ le-ltb MAX_IMPLIED (length (filter (λ b. b == i || is_above pairs i b) (range_with_len 0 end))) (omega (arith, count, few))

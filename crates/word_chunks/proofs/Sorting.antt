-- What was found, once it is sorted, is all that was to be found.
use Rattle.std.proofs.Common.{◌≡◌, ◌≢◌, ◌∙◌, ℕ, zero, suc, ◌+◌, ◌<◌, ◌≤◌, nat_le, Bool, true, false, cond, List, [], ◌∷◌, length, map, filter, sum_by, All, get_or, refl, sym, ap, inl, inr, arith}
use Rattle.std.specs.List.{range_with_len}
use Rattle.std.specs.List.Sorted.{IsNonDecreasingBy, IsPermutation}
use Rattle.std.proofs.lemmas.Bool.{both_ways, le-leb, leb-true}
use Rattle.std.proofs.lemmas.Bool.Decides.{eqb_tells}
use Rattle.std.proofs.lemmas.List.Sorted.{All-permutation, sum_by-IsPermutation}
use Rattle.std.proofs.lemmas.List.Sums.{sum_by-cons}
use Rattle.media_types.specs.declared.hash.Hash64.{Hash64}
use Rattle.media_types.specs.declared.numbers.HashNo.{HashNo}
use Rattle.word_chunks.specs.MaskLaws.{one_at, one_at-same, one_at-other}
use Rattle.word_chunks.specs.Chunks.{word_at}
use Rattle.word_chunks.specs.Searching.{hit, filter_of}
use Rattle.media_types.specs.Distance.{distance_of}

-- one of the numbers from a on, below the end, that are wanted, and what is made of it
abbrev pub IsFound : {X : Type 0} → (X → ℕ) → (ℕ → X) → (ℕ → Bool) → ℕ → ℕ → X → Type 0
IsFound number make want a end x = (a ≤ number x) × (number x < end) × (x ≡ make (number x)) × (want (number x) ≡ true)

abbrev pub found_times : {X : Type 0} → (X → ℕ) → ℕ → List X → ℕ
found_times number j xs = sum_by (λ x. one_at j (number x)) xs

pub found_times-cons : {X : Type 0} (number : X → ℕ) (j : ℕ) (x : X) (xs : List X)
    → found_times number j (x ∷ xs) ≡ one_at j (number x) + found_times number j xs
found_times-cons number j x xs = sum_by-cons (λ y. one_at j (number y)) x xs

pub found_times-none : {X : Type 0} (number : X → ℕ) (a : ℕ) (xs : List X) → All (λ x. number x ≢ a) xs → found_times number a xs ≡ 0
found_times-none number a [] h = refl
found_times-none number a (x ∷ xs) h =
    omega (
      arith,
      found_times-cons number a x xs,
      one_at-other a (number x) (h 0 x (omega arith)),
      found_times-none number a xs (λ k d lt. h (suc k) d (omega (arith, lt))),
    )

found_itself : {X : Type 0} (number : X → ℕ) (a : ℕ) (x : X) (xs : List X) → number x ≡ a → found_times number a (x ∷ xs) ≡ 0 → ⊥
found_itself number a x xs same e =
    let one : one_at a (number x) ≡ 1 = ap (one_at a) same ∙ one_at-same a in
    omega (arith, found_times-cons number a x xs, one, e)

pub found_times-zero : {X : Type 0} (number : X → ℕ) (a : ℕ) (xs : List X) → found_times number a xs ≡ 0 → All (λ x. number x ≢ a) xs
found_times-zero number a [] e k d lt = absurd (omega (arith, lt))
found_times-zero number a (x ∷ xs) e zero d lt = λ same. found_itself number a x xs same e
found_times-zero number a (x ∷ xs) e (suc k) d lt =
    found_times-zero number a xs (omega (arith, found_times-cons number a x xs, e)) k d (omega (arith, lt))

-- the front is no later than the rest, and the rest is in order
rest-after : {X : Type 0} (number : X → ℕ) (x : X) (xs : List X) → IsNonDecreasingBy number (x ∷ xs) → All (λ y. number x ≤ number y) xs
rest-after number x xs up k d lt = up 0 (suc k) d (omega arith) (omega (arith, lt))

rest-up : {X : Type 0} (number : X → ℕ) (x : X) (xs : List X) → IsNonDecreasingBy number (x ∷ xs) → IsNonDecreasingBy number xs
rest-up number x xs up i j d le lt = up (suc i) (suc j) d (omega (arith, le)) (omega (arith, lt))

first-later : {X : Type 0} (number : X → ℕ) (a : ℕ) (x : X) (xs : List X) → a ≤ number x → IsNonDecreasingBy number (x ∷ xs)
    → found_times number a (x ∷ xs) ≡ 1 → number x ≢ a → ⊥
first-later number a x xs le up e ne =
    let none : found_times number a xs ≡ 0 = found_times-none number a xs (λ k d lt. let after : number x ≤ number (get_or xs k d) = rest-after number x xs up k d lt in λ same. ne (omega (arith, same, after, le))) in
    omega (arith, found_times-cons number a x xs, e, none, one_at-other a (number x) ne)

-- the first is the least number, where that is found
first-least : {X : Type 0} (number : X → ℕ) (a : ℕ) (x : X) (xs : List X) → a ≤ number x → IsNonDecreasingBy number (x ∷ xs)
    → found_times number a (x ∷ xs) ≡ 1 → number x ≡ a
first-least number a x xs le up e =
    elim (eqb_tells (number x) a) [
      | inl same ↦ same.1
      | inr other ↦ absurd (first-later number a x xs le up e other.1)
    ]

later-all : {X : Type 0} (number : X → ℕ) (make : ℕ → X) (want : ℕ → Bool) (a end : ℕ) (xs : List X)
    → All (IsFound number make want a end) xs → All (λ x. number x ≢ a) xs → All (IsFound number make want (suc a) end) xs
later-all number make want a end xs right apart k d lt =
    let r : IsFound number make want a end (get_or xs k d) = right k d lt in
    let ne : number (get_or xs k d) ≢ a = apart k d lt in
    (omega (arith, r.0, ne), r.1, r.2, r.3)

sorted_if : {X : Type 0} (b : Bool) (number : X → ℕ) (make : ℕ → X) (want : ℕ → Bool) (m a end : ℕ) (xs : List X) → end ≡ a + suc m
    → ((k : ℕ) → number (make k) ≡ k) → All (IsFound number make want a end) xs → IsNonDecreasingBy number xs
    → ((j : ℕ) → a ≤ j → j < end → want j ≡ true → found_times number j xs ≡ 1) → want a ≡ b
    → ((ys : List X) → All (IsFound number make want (suc a) end) ys → IsNonDecreasingBy number ys
    → ((j : ℕ) → suc a ≤ j → j < end → want j ≡ true → found_times number j ys ≡ 1) → ys ≡ map make (filter want (range_with_len (a + 1) m)))
    → xs ≡ map make (cond b (a ∷ filter want (range_with_len (a + 1) m)) (filter want (range_with_len (a + 1) m)))
sorted_if true number make want m a end [] e made right up each wanted more =
    let one : found_times number a [] ≡ 1 = each a (omega arith) (omega (arith, e)) wanted in
    absurd (omega (arith, one))
sorted_if true number make want m a end (x ∷ xs) e made right up each wanted more =
    let one : found_times number a (x ∷ xs) ≡ 1 = each a (omega arith) (omega (arith, e)) wanted in
    let r : IsFound number make want a end x = right 0 x (omega arith) in
    let first : number x ≡ a = first-least number a x xs r.0 up one in
    let told : x ≡ make a = r.2 ∙ ap make first in
    let itself : one_at a (number x) ≡ 1 = ap (one_at a) first ∙ one_at-same a in
    let none : All (λ y. number y ≢ a) xs = found_times-zero number a xs (omega (arith, found_times-cons number a x xs, one, itself)) in
    let tail : xs ≡ map make (filter want (range_with_len (a + 1) m)) =
    more xs (later-all number make want a end xs (λ k d lt. right (suc k) d (omega (arith, lt))) none) (rest-up number x xs up)
    (λ j le jn wj. let apart : one_at j (number x) ≡ 0 = one_at-other j (number x) (λ same. omega (arith, same, first, le)) in omega (arith, found_times-cons number j x xs, each j (omega (arith, le)) jn wj, apart)) in
    rw (told, tail) refl
sorted_if false number make want m a end xs e made right up each wanted more =
    more xs
    (later-all number make want a end xs right
    (λ k d lt. λ same. let r : IsFound number make want a end (get_or xs k d) = right k d lt in
    both_ways (want a) wanted (ap want (sym same) ∙ r.3)))
    up
    (λ j le jn wj. each j (omega (arith, le)) jn wj)

pub sorted_from : {X : Type 0} (number : X → ℕ) (make : ℕ → X) (want : ℕ → Bool) (m a end : ℕ) (xs : List X) → end ≡ a + m
    → ((k : ℕ) → number (make k) ≡ k) → All (IsFound number make want a end) xs → IsNonDecreasingBy number xs
    → ((j : ℕ) → a ≤ j → j < end → want j ≡ true → found_times number j xs ≡ 1)
    → xs ≡ map make (filter want (range_with_len a m))
sorted_from number make want zero a end [] e made right up each = refl
sorted_from number make want zero a end (x ∷ xs) e made right up each =
    let r : IsFound number make want a end x = right 0 x (omega arith) in
    absurd (omega (arith, r.0, r.1, e))
sorted_from number make want (suc m) a end xs e made right up each =
    sorted_if (want a) number make want m a end xs e made right up each refl
    (λ ys right' up' each'. let next : suc a ≡ a + 1 = omega arith in
    rw (← next) (sorted_from number make want m (suc a) end ys (omega (arith, e)) made right' up' each'))

map-if : {X Y : Type 0} (f : X → Y) (b : Bool) (xs ys : List X) → map f (cond b xs ys) ≡ cond b (map f xs) (map f ys)
map-if f true xs ys = refl
map-if f false xs ys = refl

filter-map : {X Y : Type 0} (f : X → Y) (p : Y → Bool) (xs : List X) → map f (filter (λ x. p (f x)) xs) ≡ filter p (map f xs)
filter-map f p [] = refl
filter-map f p (x ∷ xs) =
    map-if f (p (f x)) (x ∷ filter (λ y. p (f y)) xs) (filter (λ y. p (f y)) xs) ∙ ap (λ ys. cond (p (f x)) (f x ∷ ys) ys) (filter-map f p xs)

-- each word that is to be found has been found once, and nothing else
pub record IsFoundOnce (ws : List Hash64) (q : Hash64) (w : ℕ) (hits : List (HashNo × ℕ)) : Type 0 where
  pub right : All (λ h. (h.0.0 < length ws) × (h ≡ hit ws q h.0.0) × (h.1 ≤ w)) hits
  pub each : (j : ℕ) → j < length ws → distance_of q (word_at ws j) ≤ w → sum_by (λ h. one_at j h.0.0) hits ≡ 1

-- what was found at the end of a search, sorted
pub sorted-found : (ws : List Hash64) (q : Hash64) (w : ℕ) (hits sorted : List (HashNo × ℕ)) → IsFoundOnce ws q w hits
    → IsPermutation hits sorted → IsNonDecreasingBy (λ (h : HashNo × ℕ). h.0.0) sorted → sorted ≡ filter_of ws q w
sorted-found ws q w hits sorted h moved up =
    sorted_from (λ (h : HashNo × ℕ). h.0.0) (hit ws q) (λ k. nat_le (hit ws q k).1 w) (length ws) 0 (length ws) sorted (omega arith) (λ k. refl)
    (λ k d lt. let r : (((get_or sorted k d).0.0 < length ws) × (get_or sorted k d ≡ hit ws q (get_or sorted k d).0.0) × ((get_or sorted k d).1 ≤ w)) = All-permutation (λ g. (g.0.0 < length ws) × (g ≡ hit ws q g.0.0) × (g.1 ≤ w)) hits sorted moved h.right k d lt in
    (omega arith, r.0, r.1, le-leb (hit ws q (get_or sorted k d).0.0).1 w (let same : (get_or sorted k d).1 ≡ (hit ws q (get_or sorted k d).0.0).1 = ap (λ g. g.1) r.1 in omega (arith, same, r.2))))
    up
    (λ j le jn near. omega (arith, h.each j jn (leb-true (hit ws q j).1 w near), sum_by-IsPermutation (λ g. one_at j g.0.0) hits sorted moved))
    ∙ filter-map (hit ws q) (λ h. nat_le h.1 w) (range_with_len 0 (length ws))

-- Chains of pairs: none needs more pairs than there are.
use Rattle.std.proofs.Common.{◌≡◌, ◌∙◌, ◌⊎◌, ℕ, zero, suc, ◌+◌, ◌-◌, ◌<◌, ◌≤◌, ◌==◌, ◌&&◌, ◌||◌, Bool, true, false, cond, List, [], ◌∷◌, length, count_by, filter, refl, sym, ap, inl, inr, arith}
use Rattle.std.specs.List.{AllByRecursion, list_any}
use Rattle.std.proofs.lemmas.Bool.{false≢true, cases_lt, and_parts, and_from, or_cases, or_left, or_right}
use Rattle.std.proofs.lemmas.List.Sums.{sum_by-cons, count_by-le-length}
use Rattle.sibling_chains.specs.Following.{Pair}
use Rattle.parent_closure.specs.Ancestors.{leads, is_above}

any-cons : (f : Pair → Bool) (p : Pair) (pairs : List Pair) → list_any f (p ∷ pairs) ≡ (f p || list_any f pairs)
any-cons f p pairs = refl

any-more : (f g : Pair → Bool) → ((p : Pair) → f p ≡ true → g p ≡ true) → (pairs : List Pair) → list_any f pairs ≡ true → list_any g pairs ≡ true
any-more f g h [] e = e
any-more f g h (p ∷ pairs) e = elim (or_cases (f p) (list_any f pairs) e) [
  | inl here ↦ or_left (g p) (list_any g pairs) (h p here)
  | inr there ↦ or_right (g p) (list_any g pairs) (any-more f g h pairs there)
]

any-same : (f g : Pair → Bool) (pairs : List Pair) → AllByRecursion (λ p. f p ≡ g p) pairs → list_any f pairs ≡ list_any g pairs
any-same f g [] h = refl
any-same f g (p ∷ pairs) h = rw (h.0, any-same f g pairs h.1) refl

pub any-within : (S : ℕ → Bool) (f g : Pair → Bool) → ((p : Pair) → S p.0 ≡ false → g p ≡ false) → ((p : Pair) → f p ≡ g p) → (pairs : List Pair)
    → list_any f (filter (λ p. S p.0) pairs) ≡ list_any g pairs
any-within S f g out same [] = refl
any-within S f g out same (p ∷ pairs) = by (S p.0) refl (any-within S f g out same pairs)
  where
    by : (b : Bool) → S p.0 ≡ b → list_any f (filter (λ q. S q.0) pairs) ≡ list_any g pairs
        → list_any f (cond b (p ∷ filter (λ q. S q.0) pairs) (filter (λ q. S q.0) pairs)) ≡ (g p || list_any g pairs)
    by true e rest = rw (same p, rest) refl
    by false e rest = rw (out p e) rest

abbrev one : Bool → ℕ
one b = cond b 1 0

one-more : (b c : Bool) → (b ≡ true → c ≡ true) → one b ≤ one c
one-more true true h = omega arith
one-more true false h = absurd (false≢true (h refl))
one-more false c h = omega arith

one-same : (b c : Bool) → one b ≡ one c → b ≡ c
one-same true true e = refl
one-same false false e = refl
one-same true false e = absurd (omega (arith, e))
one-same false true e = absurd (omega (arith, e))

count-more : (f g : Pair → Bool) → ((p : Pair) → f p ≡ true → g p ≡ true) → (pairs : List Pair) → count_by f pairs ≤ count_by g pairs
count-more f g h [] = omega arith
count-more f g h (p ∷ pairs) =
    let a = sum_by-cons (λ (q : Pair). cond (f q) 1 0) p pairs in
    let b = sum_by-cons (λ (q : Pair). cond (g q) 1 0) p pairs in
    omega (arith, a, b, one-more (f p) (g p) (h p), count-more f g h pairs)

count-same : (f g : Pair → Bool) → ((p : Pair) → f p ≡ true → g p ≡ true) → (pairs : List Pair) → count_by g pairs ≤ count_by f pairs
    → AllByRecursion (λ p. g p ≡ f p) pairs
count-same f g h [] le = tt
count-same f g h (p ∷ pairs) le =
    let a = sum_by-cons (λ (q : Pair). cond (f q) 1 0) p pairs in
    let b = sum_by-cons (λ (q : Pair). cond (g q) 1 0) p pairs in
    let m = one-more (f p) (g p) (h p) in
    let k = count-more f g h pairs in
    (one-same (g p) (f p) (omega (arith, a, b, m, k, le)), count-same f g h pairs (omega (arith, a, b, m, k, le)))

module _ (pairs : List Pair) (a : ℕ) where
  -- n rounds have come to the child of the pair
  abbrev fired : ℕ → Pair → Bool
  fired n p = p.0 == a || leads n pairs a p.0

  fired-more : (n m : ℕ) → ((b : ℕ) → leads n pairs a b ≡ true → leads m pairs a b ≡ true) → (p : Pair) → fired n p ≡ true → fired m p ≡ true
  fired-more n m h p e = elim (or_cases (p.0 == a) (leads n pairs a p.0) e) [
    | inl here ↦ or_left (p.0 == a) (leads m pairs a p.0) here
    | inr there ↦ or_right (p.0 == a) (leads m pairs a p.0) (h p.0 there)
  ]

  round-more : (n m : ℕ) → ((b : ℕ) → leads n pairs a b ≡ true → leads m pairs a b ≡ true) → (b : ℕ) → leads (suc n) pairs a b ≡ true → leads (suc m) pairs a b ≡ true
  round-more n m h b e =
      any-more (λ p. fired n p && p.1 == b) (λ p. fired m p && p.1 == b)
      (λ p t. let parts = and_parts (fired n p) (p.1 == b) t in and_from (fired m p) (p.1 == b) (fired-more n m h p parts.0) parts.1) pairs e

  one-round : (n b : ℕ) → leads n pairs a b ≡ true → leads (suc n) pairs a b ≡ true
  one-round zero b e = absurd (false≢true e)
  one-round (suc n) b e = round-more n (suc n) (one-round n) b e

  -- more rounds lose nothing
  pub rounds-more : (k n m b : ℕ) → m ≡ n + k → leads n pairs a b ≡ true → leads m pairs a b ≡ true
  rounds-more zero n m b e h = let same : n ≡ m = omega (arith, e) in ap (λ r. leads r pairs a b) (sym same) ∙ h
  rounds-more (suc k) n zero b e h = absurd (omega (arith, e))
  rounds-more (suc k) n (suc m) b e h = one-round m b (rounds-more k n m b (omega (arith, e)) h)

  abbrev Stable : ℕ → Type 0
  Stable n = AllByRecursion (λ p. fired (suc n) p ≡ fired n p) pairs

  stable-round : (n : ℕ) → Stable n → (b : ℕ) → leads (suc (suc n)) pairs a b ≡ leads (suc n) pairs a b
  stable-round n h b = any-same (λ p. fired (suc n) p && p.1 == b) (λ p. fired n p && p.1 == b) pairs (both pairs h)
    where
      both : (qs : List Pair) → AllByRecursion (λ p. fired (suc n) p ≡ fired n p) qs → AllByRecursion (λ p. (fired (suc n) p && p.1 == b) ≡ (fired n p && p.1 == b)) qs
      both [] h = tt
      both (q ∷ qs) h = (ap (λ f. f && q.1 == b) h.0, both qs h.1)

  stable-next : (n : ℕ) → Stable n → Stable (suc n)
  stable-next n h = all pairs
    where
      all : (qs : List Pair) → AllByRecursion (λ p. fired (suc (suc n)) p ≡ fired (suc n) p) qs
      all [] = tt
      all (q ∷ qs) = (ap (λ f. q.0 == a || f) (stable-round n h q.0), all qs)

  -- from a round on that brings nothing new, no round brings anything new
  stable-on : (k n m : ℕ) → m ≡ suc n + k → Stable n → (b : ℕ) → leads m pairs a b ≡ leads (suc n) pairs a b
  stable-on zero n m e h b = let same : m ≡ suc n = omega (arith, e) in ap (λ r. leads r pairs a b) same
  stable-on (suc k) n m e h b = stable-on k (suc n) m (omega (arith, e)) (stable-next n h) b ∙ stable-round n h b

  -- after n rounds more than n pairs have fired, or a round brought nothing new
  grows : (n : ℕ) → 1 ≤ count_by (fired 0) pairs → (suc n ≤ count_by (fired n) pairs) ⊎ ((m : ℕ) × (m < n) × Stable m)
  grows zero some = inl some
  grows (suc n) some = elim (grows n some) [
    | inr (m, lt, s) ↦ inr (m, omega (arith, lt), s)
    | inl many ↦ elim (cases_lt (count_by (fired n) pairs) (count_by (fired (suc n)) pairs)) [
      | inl more ↦ inl (omega (arith, many, more))
      | inr same ↦ inr (n, omega arith, count-same (fired n) (fired (suc n)) (fired-more n (suc n) (one-round n)) pairs same)
    ]
  ]

  not-start : (c d : Bool) → (c || d) ≡ false → c ≡ false
  not-start false d e = refl
  not-start true d e = e

  none-any : (n : ℕ) → ((b : ℕ) → leads n pairs a b ≡ false) → (b : ℕ) (qs : List Pair) → count_by (fired 0) qs ≤ 0
      → list_any (λ p. fired n p && p.1 == b) qs ≡ false
  none-any n h b [] z = refl
  none-any n h b (q ∷ qs) z =
      let e = sum_by-cons (λ (p : Pair). cond (fired 0 p) 1 0) q qs in
      let start : fired 0 q ≡ false = one-same (fired 0 q) false (omega (arith, e, z)) in
      rw (not-start (q.0 == a) false start, h q.0) (none-any n h b qs (omega (arith, e, z)))

  none-fired : (n : ℕ) → count_by (fired 0) pairs ≤ 0 → (b : ℕ) → leads n pairs a b ≡ false
  none-fired zero none b = refl
  none-fired (suc n) none b = none-any n (none-fired n none) b pairs none

  -- so many rounds as there are pairs find all
  pub enough : (n b : ℕ) → length pairs ≤ n → leads n pairs a b ≡ is_above pairs a b
  enough n b le = elim (cases_lt 0 (count_by (fired 0) pairs)) [
    | inr none ↦ none-fired n none b ∙ sym (none-fired (length pairs) none b)
    | inl some ↦ elim (grows (length pairs) (omega (arith, some))) [
      | inl many ↦ absurd (omega (arith, many, count_by-le-length (fired (length pairs)) pairs))
      | inr (m, lt, s) ↦
          stable-on (n - suc m) m n (omega (arith, lt, le)) s b ∙ sym (stable-on (length pairs - suc m) m (length pairs) (omega (arith, lt)) s b)
    ]
  ]

-- no chain needs more pairs than there are
pub chains-short : (pairs : List Pair) (n a b : ℕ) → leads n pairs a b ≡ true → is_above pairs a b ≡ true
chains-short pairs n a b h =
    sym (enough pairs a (n + length pairs) b (omega arith)) ∙ rounds-more pairs a (length pairs) n (n + length pairs) b refl h

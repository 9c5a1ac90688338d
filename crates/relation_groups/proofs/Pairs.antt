-- Pairs that one list has and another lacks.
use Rattle.std.proofs.Common.{◌≡◌, ◌≢◌, ◌∙◌, ℕ, zero, suc, ◌+◌, ◌<◌, ◌≤◌, ◌==◌, ◌&&◌, ◌||◌, not, Bool, true, false, List, [], ◌∷◌, map, All, refl, sym, ap, inl, inr, arith}
use Rattle.std.proofs.lemmas.Bool.{false≢true, and_from, and_parts, eqb-true, not-true, or_cases, or_left, or_right}
use Rattle.std.proofs.lemmas.Bool.Decides.{nat_tests, eqb_tells, same_from_decides}
use Rattle.std.specs.List.{list_any, range_with_len}
use Rattle.relation_groups.specs.Moves.{differ}
use Rattle.relation_groups.specs.Numbers.{has, is_of, lacks}
use Rattle.media_types.specs.Numbered.{files}
use Rattle.relation_groups.proofs.Lists.{file}

-- either order
is_of-sym : (p : ℕ × ℕ) (c d : ℕ) → is_of p c d ≡ is_of p d c
is_of-sym p c d = grind (arith, nat_tests)

pub has-sym : (ps : List (ℕ × ℕ)) (c d : ℕ) → has ps c d ≡ has ps d c
has-sym [] c d = refl
has-sym (p ∷ ps) c d = rw (is_of-sym p c d, has-sym ps c d) refl

-- a pair of c and d is one that the others have exactly where they have c and d
of-other : (p : ℕ × ℕ) (c d : ℕ) (qs : List (ℕ × ℕ)) → is_of p c d ≡ true → has qs p.0 p.1 ≡ has qs c d
of-other p c d qs e =
    elim (or_cases (p.0 == c && p.1 == d) (p.1 == c && p.0 == d) e) [
      | inl h ↦
          let b = and_parts (p.0 == c) (p.1 == d) h in
          rw (eqb-true p.0 c b.0, eqb-true p.1 d b.1) refl
      | inr h ↦
          let b = and_parts (p.1 == c) (p.0 == d) h in
          rw (eqb-true p.1 c b.0, eqb-true p.0 d b.1) (has-sym qs d c)
    ]

of-touches : (p : ℕ × ℕ) (c d : ℕ) → is_of p c d ≡ true → (c == p.0 || c == p.1) ≡ true
of-touches p c d e = grind (arith, nat_tests)

lacks-if : (ps qs : List (ℕ × ℕ)) (c d : ℕ) → has ps c d ≡ true → has qs c d ≡ false → lacks ps qs c ≡ true
lacks-if [] qs c d h k = absurd (false≢true h)
lacks-if (p ∷ ps) qs c d h k =
    elim (or_cases (is_of p c d) (has ps c d) h) [
      | inl e ↦
          or_left ((c == p.0 || c == p.1) && not (has qs p.0 p.1)) (lacks ps qs c)
          (and_from (c == p.0 || c == p.1) (not (has qs p.0 p.1)) (of-touches p c d e) (ap not (of-other p c d qs e ∙ k)))
      | inr e ↦
          or_right ((c == p.0 || c == p.1) && not (has qs p.0 p.1)) (lacks ps qs c) (lacks-if ps qs c d e k)
    ]

-- the other end of a pair of c
other-end : (p : ℕ × ℕ) (c n : ℕ) → (p.0 < n) × (p.1 < n) → (c == p.0 || c == p.1) ≡ true → (d : ℕ) × ((d < n) × (is_of p c d ≡ true))
other-end p c n b e =
    elim (or_cases (c == p.0) (c == p.1) e) [
      | inl h ↦ (p.1, (b.1, grind (arith, nat_tests)))
      | inr h ↦ (p.0, (b.0, grind (arith, nat_tests)))
    ]

lacks-tells : (ps qs : List (ℕ × ℕ)) (c n : ℕ) → All (λ p. (p.0 < n) × (p.1 < n)) ps → lacks ps qs c ≡ true
    → (d : ℕ) × ((d < n) × ((has ps c d ≡ true) × (has qs c d ≡ false)))
lacks-tells [] qs c n b h = absurd (false≢true h)
lacks-tells (p ∷ ps) qs c n b h =
    elim (or_cases ((c == p.0 || c == p.1) && not (has qs p.0 p.1)) (lacks ps qs c) h) [
      | inl e ↦
          let two = and_parts (c == p.0 || c == p.1) (not (has qs p.0 p.1)) e in
          let end = other-end p c n (b 0 p (omega arith)) two.0 in
          (end.0, (end.1.0, (or_left (is_of p c end.0) (has ps c end.0) end.1.1, sym (of-other p c end.0 qs end.1.1) ∙ not-true (has qs p.0 p.1) two.1)))
      | inr e ↦
          let later = lacks-tells ps qs c n (λ k x hk. b (suc k) x (omega (arith, hk))) e in
          (later.0, (later.1.0, (or_right (is_of p c later.0) (has ps c later.0) later.1.1.0, later.1.1.1)))
    ]

-- some number of a row of numbers passes
any-of : (test : ℕ → Bool) (n k d : ℕ) → k ≤ d → d < k + n → test d ≡ true → list_any (λ f. test f.0) (map file (range_with_len k n)) ≡ true
any-of test zero k d le lt e = absurd (omega (arith, le, lt))
any-of test (suc n) k d le lt e =
    elim (eqb_tells k d) [
      | inl h ↦
          let at : k ≡ d = h.1 in or_left (test k) (list_any (λ f. test f.0) (map file (range_with_len (k + 1) n))) (ap test at ∙ e)
      | inr h ↦
          let ne : k ≢ d = h.1 in
          or_right (test k) (list_any (λ f. test f.0) (map file (range_with_len (k + 1) n)))
          (any-of test n (k + 1) d (omega (arith, le, ne)) (omega (arith, lt)) e)
    ]

any-tells : (test : ℕ → Bool) (n k : ℕ) → list_any (λ f. test f.0) (map file (range_with_len k n)) ≡ true → (d : ℕ) × (test d ≡ true)
any-tells test zero k h = absurd (false≢true h)
any-tells test (suc n) k h =
    elim (or_cases (test k) (list_any (λ f. test f.0) (map file (range_with_len (k + 1) n))) h) [
      | inl e ↦ (k, e)
      | inr e ↦ any-tells test n (k + 1) e
    ]

differ-cases : (s t : Bool) (P : Type 0) → differ s t ≡ true → (s ≡ true → t ≡ false → P) → (t ≡ true → s ≡ false → P) → P
differ-cases true t P e h k = h refl (not-true t e)
differ-cases false t P e h k = k e refl

if-differ : (s t : Bool) → s ≡ true → t ≡ false → differ s t ≡ true
if-differ s t p q = rw (p, q) refl

differ-sym : (s t : Bool) → differ s t ≡ differ t s
differ-sym true true = refl
differ-sym true false = refl
differ-sym false true = refl
differ-sym false false = refl

-- two lists have other pairs of c where one of the two lacks a pair of c that the other has
pub differ-is_lacks : (n c : ℕ) (ps qs : List (ℕ × ℕ)) → All (λ p. (p.0 < n) × (p.1 < n)) ps → All (λ p. (p.0 < n) × (p.1 < n)) qs
    → list_any (λ d. differ (has ps c d.0) (has qs c d.0)) (files n) ≡ (lacks ps qs c || lacks qs ps c)
differ-is_lacks n c ps qs hp hq =
    let test : ℕ → Bool = λ d. differ (has ps c d) (has qs c d) in
    let differs : Bool = list_any (λ d. differ (has ps c d.0) (has qs c d.0)) (files n) in
    let lacking : Bool = lacks ps qs c || lacks qs ps c in
    let there : differs ≡ true → lacking ≡ true = λ e.
    let w = any-tells test n 0 e in
    differ-cases (has ps c w.0) (has qs c w.0) (lacking ≡ true) w.1
    (λ h k. or_left (lacks ps qs c) (lacks qs ps c) (lacks-if ps qs c w.0 h k))
    (λ h k. or_right (lacks ps qs c) (lacks qs ps c) (lacks-if qs ps c w.0 h k)) in
    let back : lacking ≡ true → differs ≡ true = λ e.
    elim (or_cases (lacks ps qs c) (lacks qs ps c) e) [
      | inl h ↦
          let w = lacks-tells ps qs c n hp h in
          any-of test n 0 w.0 (omega arith) (omega (arith, w.1.0)) (if-differ (has ps c w.0) (has qs c w.0) w.1.1.0 w.1.1.1)
      | inr h ↦
          let w = lacks-tells qs ps c n hq h in
          any-of test n 0 w.0 (omega arith) (omega (arith, w.1.0))
          (differ-sym (has ps c w.0) (has qs c w.0) ∙ if-differ (has qs c w.0) (has ps c w.0) w.1.1.0 w.1.1.1)
    ] in
    same_from_decides differs lacking (there, back) (λ e. e, λ e. e)

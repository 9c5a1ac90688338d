-- Labels of tags: the least of each cluster, whatever the order of the pairs.
use Rattle.std.proofs.Common.{◌≡◌, ◌∙◌, ℕ, ◌≤◌, ◌==◌, ◌||◌, min, Bool, true, false, cond, List, [], ◌∷◌, ◌++◌, refl, sym, ap, inl, inr, arith, All}
use Rattle.std.specs.List.{AllByRecursion}
use Rattle.std.proofs.lemmas.Bool.{cases_Bool, cases_lt, eqb-true, eqb-false, eq-eqb}
use Rattle.std.proofs.lemmas.Bool.Decides.{nat_tests}
use Rattle.std.proofs.lemmas.List.Elements.{recursion_from_All}
use Rattle.sibling_chains.specs.Following.{Pair}
use Rattle.sibling_chains.specs.Clusters.{joined, labels, labels_after}
use Rattle.sibling_chains.specs.ClusterLaws.{labels-both, joined-both, joined-kept}

-- each label is the least tag of its cluster
pub record AreLeast (L : ℕ → ℕ) : Type 0 where
  pub low : (t : ℕ) → L t ≤ t
  pub own : (t : ℕ) → L (L t) ≡ L t

joined-low : (a b l t : ℕ) → l ≤ t → cond (l == a || l == b) (min a b) l ≤ t
joined-low a b l t h = grind (arith, nat_tests)

joined-own : (p : Pair) (L : ℕ → ℕ) → AreLeast L → (t : ℕ) → joined p L (joined p L t) ≡ joined p L t
joined-own p L h t = elim (cases_Bool (L t == L p.0 || L t == L p.1)) [
  | inl hit ↦ rw hit (least-own)
  | inr miss ↦ rw miss (rw (h.own t, miss) refl)
]
  where
    least-own : joined p L (min (L p.0) (L p.1)) ≡ min (L p.0) (L p.1)
    least-own = elim (cases_lt (L p.0) (L p.1)) [
      | inl less ↦ let m : min (L p.0) (L p.1) ≡ L p.0 = omega arith in rw (m, h.own p.0, eq-eqb (L p.0) (L p.0) refl) refl
      | inr more ↦ let m : min (L p.0) (L p.1) ≡ L p.1 = omega arith in rw (m, h.own p.1, eq-eqb (L p.1) (L p.1) refl) (hit (L p.1 == L p.0))
    ]
      where
        hit : (b : Bool) → cond (b || true) (L p.1) (L p.1) ≡ L p.1
        hit true = refl
        hit false = refl

joined-least : (p : Pair) (L : ℕ → ℕ) → AreLeast L → AreLeast (joined p L)
joined-least p L h = record {
  low = λ t. joined-low (L p.0) (L p.1) (L t) t (h.low t);
  own = joined-own p L h;
}

after-least : (pairs : List Pair) (L : ℕ → ℕ) → AreLeast L → AreLeast (labels_after L pairs)
after-least [] L h = h
after-least (p ∷ pairs) L h = after-least pairs (joined p L) (joined-least p L h)

-- labels are the least tags of their clusters
pub labels-least : (pairs : List Pair) → AreLeast (labels pairs)
labels-least pairs = after-least pairs (λ t. t) (record { low = λ t. omega arith; own = λ t. refl })

-- equal labels are equal names, where the pairs have equal names
abbrev Refines : (ℕ → ℕ) → (ℕ → ℕ) → Type 0
Refines L M = (a b : ℕ) → L a ≡ L b → M a ≡ M b

-- a label apart from both isn't the lesser of them
far : (a b l : ℕ) → (l == a) ≡ false → (l == b) ≡ false → l ≡ min a b → ⊥
far a b l x y z = elim (cases_lt a b) [
  | inl less ↦ let m : l ≡ a = omega arith in eqb-false l a x m
  | inr more ↦ let m : l ≡ b = omega arith in eqb-false l b y m
]

joined-refines : (p : Pair) (L M : ℕ → ℕ) → M p.0 ≡ M p.1 → Refines L M → Refines (joined p L) M
joined-refines p L M e h a b same = by (L a == L p.0) (L a == L p.1) (L b == L p.0) (L b == L p.1) refl refl refl refl same
  where
    by : (a0 a1 b0 b1 : Bool) → (L a == L p.0) ≡ a0 → (L a == L p.1) ≡ a1 → (L b == L p.0) ≡ b0 → (L b == L p.1) ≡ b1
        → cond (a0 || a1) (min (L p.0) (L p.1)) (L a) ≡ cond (b0 || b1) (min (L p.0) (L p.1)) (L b) → M a ≡ M b
    by true a1 true b1 q r s t u = h a p.0 (eqb-true (L a) (L p.0) q) ∙ sym (h b p.0 (eqb-true (L b) (L p.0) s))
    by true a1 false true q r s t u = h a p.0 (eqb-true (L a) (L p.0) q) ∙ e ∙ sym (h b p.1 (eqb-true (L b) (L p.1) t))
    by false true true b1 q r s t u = h a p.1 (eqb-true (L a) (L p.1) r) ∙ sym e ∙ sym (h b p.0 (eqb-true (L b) (L p.0) s))
    by false true false true q r s t u = h a p.1 (eqb-true (L a) (L p.1) r) ∙ sym (h b p.1 (eqb-true (L b) (L p.1) t))
    by true a1 false false q r s t u = absurd (far (L p.0) (L p.1) (L b) s t (sym u))
    by false true false false q r s t u = absurd (far (L p.0) (L p.1) (L b) s t (sym u))
    by false false true b1 q r s t u = absurd (far (L p.0) (L p.1) (L a) q r u)
    by false false false true q r s t u = absurd (far (L p.0) (L p.1) (L a) q r u)
    by false false false false q r s t u = h a b u

after-refines : (pairs : List Pair) (L M : ℕ → ℕ) → AllByRecursion (λ p. M p.0 ≡ M p.1) pairs → Refines L M → Refines (labels_after L pairs) M
after-refines [] L M c h = h
after-refines (p ∷ pairs) L M c h = after-refines pairs (joined p L) M c.1 (joined-refines p L M c.0 h)

-- no finer names go with the pairs
pub labels-finest : (pairs : List Pair) (M : ℕ → ℕ) → All (λ p. M p.0 ≡ M p.1) pairs → (a b : ℕ) → labels pairs a ≡ labels pairs b → M a ≡ M b
labels-finest pairs M c a b e =
    after-refines pairs (λ t. t) M (recursion_from_All (λ p. M p.0 ≡ M p.1) pairs c) (λ x y same. ap M same) a b e

-- two labellings that refine one another are the same
same-labels : (L M : ℕ → ℕ) → AreLeast L → AreLeast M → Refines L M → Refines M L → (t : ℕ) → L t ≡ M t
same-labels L M l m p q t =
    let one : M (L t) ≡ M t = p (L t) t (l.own t) in
    let two : L (M t) ≡ L t = q (M t) t (m.own t) in
    let low : M (L t) ≤ L t = m.low (L t) in
    let high : L (M t) ≤ M t = l.low (M t) in
    omega (arith, one, two, low, high)

append-parts : (P : Pair → Type 0) (xs : List Pair) (p : Pair) (ys : List Pair) → AllByRecursion P (xs ++ p ∷ ys) → P p × AllByRecursion P (xs ++ ys)
append-parts P [] p ys a = a
append-parts P (x ∷ xs) p ys a = let rest = append-parts P xs p ys a.1 in (rest.0, (a.0, rest.1))

append-whole : (P : Pair → Type 0) (xs : List Pair) (p : Pair) (ys : List Pair) → P p → AllByRecursion P (xs ++ ys) → AllByRecursion P (xs ++ p ∷ ys)
append-whole P [] p ys h a = (h, a)
append-whole P (x ∷ xs) p ys h a = (a.0, append-whole P xs p ys h a.1)

-- a pair that is recorded anywhere joins two clusters
pub one-tie : (before later : List Pair) (p : Pair) (t : ℕ) → labels (before ++ p ∷ later) t ≡ joined p (labels (before ++ later)) t
one-tie before later p =
    let whole : List Pair = before ++ p ∷ later in
    let rest : List Pair = before ++ later in
    let L : ℕ → ℕ = labels whole in
    let M : ℕ → ℕ = joined p (labels rest) in
    let parts = append-parts (λ q. L q.0 ≡ L q.1) before p later (labels-both whole (λ t. t)) in
    let kept = all-kept (labels rest) rest (labels-both rest (λ t. t)) in
    same-labels L M (labels-least whole) (joined-least p (labels rest) (labels-least rest))
    (after-refines whole (λ t. t) M (append-whole (λ q. M q.0 ≡ M q.1) before p later (joined-both p (labels rest)) kept) (λ x y same. ap M same))
    (joined-refines p (labels rest) L parts.0 (after-refines rest (λ t. t) L parts.1 (λ x y same. ap L same)))
  where
    all-kept : (R : ℕ → ℕ) (pairs : List Pair) → AllByRecursion (λ q. R q.0 ≡ R q.1) pairs → AllByRecursion (λ q. joined p R q.0 ≡ joined p R q.1) pairs
    all-kept R [] a = tt
    all-kept R (q ∷ pairs) a = (joined-kept p R q.0 q.1 a.0, all-kept R pairs a.1)

-- Groups of numbers, and the pairs of a label and a number in which they are kept.
use Rattle.std.proofs.Common.{◌≡◌, ◌≢◌, ◌∙◌, ◌↔◌, ◌⊎◌, ℕ, ◌<◌, ◌≤◌, ◌==◌, false, cond, List, [], ◌∷◌, ◌++◌, length, get_or, set, Option, Some, None, Contains, refl, sym, ap, inl, inr, arith}
use Rattle.std.proofs.lemmas.Bool.{cases_eq, cases_lt, eqb-true, eq-eqb, ne_eqb}
use Rattle.std.proofs.lemmas.List.{get_or_append_left, get_or-set_same, get_or-set_other, get_or_past, length-set, length_push}
use Rattle.spare_tables.specs.Pairs.{IsLeastSecondFrom}
use Rattle.sibling_chains.specs.Ends.{at}
use Rattle.sibling_chains.specs.Following.{Pair}
use Rattle.sibling_chains.specs.Grouping.{IsGrouped, IsNext}

-- ---- a list once one place is written
pub at-set : (xs : List ℕ) (n v k : ℕ) → n < length xs → at (set xs n v) k ≡ cond (n == k) v (at xs k)
at-set xs n v k h = elim (cases_eq n k) [
  | inl same ↦ rw (eq-eqb n k same) (ap (λ m. get_or (set xs n v) m m) (sym same) ∙ get_or-set_same xs n v n h)
  | inr differ ↦ let other : k ≢ n = (λ e. differ (sym e)) in rw (ne_eqb n k differ) (get_or-set_other xs n k v k other)
]

pub at-push : (xs : List ℕ) (v k : ℕ) → k < length xs → at (xs ++ v ∷ []) k ≡ at xs k
at-push xs v k h = get_or_append_left xs (v ∷ []) k k h

pub at-pushed : (xs : List ℕ) (v : ℕ) → at (xs ++ v ∷ []) (length xs) ≡ v
at-pushed xs v = last xs (length xs)
  where
    last : (xs : List ℕ) (d : ℕ) → get_or (xs ++ v ∷ []) (length xs) d ≡ v
    last [] d = refl
    last (x ∷ xs) d = last xs d

-- one more place that is its own changes nothing
pub at-own : (xs : List ℕ) (t : ℕ) → at (xs ++ length xs ∷ []) t ≡ at xs t
at-own xs t = elim (cases_lt t (length xs)) [
  | inl less ↦ at-push xs (length xs) t less
  | inr more ↦ elim (cases_eq t (length xs)) [
    | inl same ↦ ap (at (xs ++ length xs ∷ [])) same ∙ at-pushed xs (length xs) ∙ sym (ap (at xs) same ∙ get_or_past xs (length xs) (length xs) (omega arith))
    | inr differ ↦
        let past : length (xs ++ length xs ∷ []) ≤ t = omega (arith, length_push xs (length xs), more, differ) in
        get_or_past (xs ++ length xs ∷ []) t t past ∙ sym (get_or_past xs t t more)
  ]
]

-- ---- the pairs
pub next-from : (labels : List ℕ) (pairs : List Pair) (label from : ℕ) (second : Option ℕ) → IsGrouped labels pairs → IsLeastSecondFrom pairs label from second
    → IsNext (length labels) (λ n. at labels n == label) from second
next-from labels pairs label from None g least = λ k lt is. least k ((g.members label k).1 (lt, eqb-true _ _ is))
next-from labels pairs label from (Some m) g least =
    let has = (g.members label m).0 least.0 in
    (has.0, least.1, eq-eqb _ _ has.1, λ k lt le is. least.2 k ((g.members label k).1 (lt, eqb-true _ _ is)) le)

pub push-grouped : (labels : List ℕ) (pairs new : List Pair) (label : ℕ) → IsGrouped labels pairs → length labels < 4294967294
    → ((p : Pair) → Contains new p ↔ (Contains pairs p ⊎ (p ≡ (label, length labels)))) → IsGrouped (labels ++ label ∷ []) new
push-grouped labels pairs new label g few h =
    let len = length_push labels label in
    record { members = λ l n. (there l n, back l n); few = omega (arith, len, few) }
  where
    there : (l n : ℕ) → Contains new (l, n) → (n < length (labels ++ label ∷ [])) × (at (labels ++ label ∷ []) n ≡ l)
    there l n has =
        let len = length_push labels label in
        elim ((h (l, n)).0 has) [
          | inl old ↦ let was = (g.members l n).0 old in (omega (arith, len, was.0), at-push labels label n was.0 ∙ was.1)
          | inr same ↦
              let number : n ≡ length labels = ap (λ (p : Pair). p.1) same in
              let named : l ≡ label = ap (λ (p : Pair). p.0) same in
              (omega (arith, len, number), ap (at (labels ++ label ∷ [])) number ∙ at-pushed labels label ∙ sym named)
        ]

    back : (l n : ℕ) → (n < length (labels ++ label ∷ [])) × (at (labels ++ label ∷ []) n ≡ l) → Contains new (l, n)
    back l n has =
        let len = length_push labels label in
        elim (cases_lt n (length labels)) [
          | inl less ↦ (h (l, n)).1 (inl ((g.members l n).1 (less, sym (at-push labels label n less) ∙ has.1)))
          | inr more ↦
              let number : n ≡ length labels = omega (arith, len, has.0, more) in
              let named : l ≡ label = sym has.1 ∙ ap (at (labels ++ label ∷ [])) number ∙ at-pushed labels label in
              (h (l, n)).1 (inr (λ i. (named i, number i)))
        ]

pub put-grouped : (labels : List ℕ) (pairs taken new : List Pair) (number label : ℕ) → IsGrouped labels pairs → number < length labels
    → ((p : Pair) → Contains taken p ↔ (Contains pairs p × (p ≢ (at labels number, number))))
    → ((p : Pair) → Contains new p ↔ (Contains taken p ⊎ (p ≡ (label, number)))) → IsGrouped (set labels number label) new
put-grouped labels pairs taken new number label g lt t h =
    record { members = λ l n. (there l n, back l n); few = omega (arith, length-set labels number label, g.few) }
  where
    there : (l n : ℕ) → Contains new (l, n) → (n < length (set labels number label)) × (at (set labels number label) n ≡ l)
    there l n has =
        let len = length-set labels number label in
        elim ((h (l, n)).0 has) [
          | inl old ↦
              let kept = (t (l, n)).0 old in
              let was = (g.members l n).0 kept.0 in
              let other : (number == n) ≡ false = ne_eqb number n (λ same. kept.1 (λ i. ((sym was.1 ∙ ap (at labels) (sym same)) i, sym same i))) in
              (omega (arith, len, was.0), at-set labels number label n lt ∙ rw other was.1)
          | inr same ↦
              let here : n ≡ number = ap (λ (p : Pair). p.1) same in
              let named : l ≡ label = ap (λ (p : Pair). p.0) same in
              (omega (arith, len, here, lt), at-set labels number label n lt ∙ rw (eq-eqb number n (sym here)) (sym named))
        ]

    back : (l n : ℕ) → (n < length (set labels number label)) × (at (set labels number label) n ≡ l) → Contains new (l, n)
    back l n has =
        let len = length-set labels number label in
        elim (cases_eq number n) [
          | inl same ↦
              let named : l ≡ label = sym has.1 ∙ at-set labels number label n lt ∙ rw (eq-eqb number n same) refl in
              (h (l, n)).1 (inr (λ i. (named i, sym same i)))
          | inr differ ↦
              let was : at labels n ≡ l = rw (ne_eqb number n differ) at (sym (at-set labels number label n lt) ∙ has.1) in
              (h (l, n)).1 (inl ((t (l, n)).1 ((g.members l n).1 (omega (arith, len, has.0), was), λ same. differ (sym (ap (λ (p : Pair). p.1) same)))))
        ]

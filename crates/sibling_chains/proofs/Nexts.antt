-- The first tag of a list that passes a test.
use Rattle.std.proofs.Common.{◌≡◌, ◌≢◌, ◌∙◌, ℕ, zero, suc, ◌+◌, ◌<◌, ◌≤◌, ◌&&◌, Bool, true, false, Option, Some, None, map, refl, sym, ap, inl, inr, arith}
use Rattle.std.proofs.lemmas.Bool.{and_from, and_parts, cases_lt, cond-false, cond-true, false≢true, false_from_ne_true}
use Rattle.std.proofs.lemmas.Bool.Decides.{eqb_tells}
use Rattle.std.specs.List.{find, range_with_len}
use Rattle.media_types.specs.declared.numbers.TagNo.{TagNo}
use Rattle.sibling_chains.specs.Grouping.{IsNext}
use Rattle.sibling_chains.specs.Known.{is_behind, next_tag_of}

abbrev tag : ℕ → TagNo
tag k = record { 0 = k }

find-none : (p : TagNo → Bool) (n k : ℕ) → ((g : ℕ) → k ≤ g → g < k + n → p (tag g) ≡ false) → find p (map tag (range_with_len k n)) ≡ None
find-none p zero k h = refl
find-none p (suc n) k h =
    cond-false (p (tag k)) (Some (tag k)) (find p (map tag (range_with_len (k + 1) n))) (h k (omega arith) (omega arith))
    ∙ find-none p n (k + 1) (λ g l u. h g (omega (arith, l)) (omega (arith, u)))

find-first : (p : TagNo → Bool) (n k m : ℕ) → k ≤ m → m < k + n → ((g : ℕ) → k ≤ g → g < m → p (tag g) ≡ false) → p (tag m) ≡ true
    → find p (map tag (range_with_len k n)) ≡ Some (tag m)
find-first p zero k m le lt h q = absurd (omega (arith, le, lt))
find-first p (suc n) k m le lt h q =
    elim (eqb_tells k m) [
      | inl e ↦
          let at : k ≡ m = e.1 in
          cond-true (p (tag k)) (Some (tag k)) (find p (map tag (range_with_len (k + 1) n))) (ap (λ j. p (tag j)) at ∙ q) ∙ ap (λ j. Some (tag j)) at
      | inr e ↦
          let ne : k ≢ m = e.1 in
          cond-false (p (tag k)) (Some (tag k)) (find p (map tag (range_with_len (k + 1) n))) (h k (omega arith) (omega (arith, le, ne)))
          ∙ find-first p n (k + 1) m (omega (arith, le, ne)) (omega (arith, lt)) (λ g l u. h g (omega (arith, l)) u) q
    ]

module _ (n from : ℕ) (after : Option TagNo) (test : ℕ → Bool) (before : (t : ℕ) → t < from → is_behind after t ≡ false) where
  -- behind the place a tag isn't below the number
  not-below : (t : ℕ) → is_behind after t ≡ true → from ≤ t
  not-below t behind = elim (cases_lt t from) [
    | inl less ↦ absurd (false≢true (sym (before t less) ∙ behind))
    | inr more ↦ more
  ]

  pub next-none : IsNext n test from None → None ≡ next_tag_of n after test
  next-none least =
      sym (find-none (λ t. is_behind after t.0 && test t.0) n 0 (λ g l u. false_from_ne_true (is_behind after g && test g) (λ both.
      let parts = and_parts (is_behind after g) (test g) both in
      omega (arith, least g (omega (arith, u)) parts.1, not-below g parts.0))))

  pub next-some : (m : ℕ) → is_behind after m ≡ true → IsNext n test from (Some m) → Some (tag m) ≡ next_tag_of n after test
  next-some m behind least =
      sym (find-first (λ t. is_behind after t.0 && test t.0) n 0 m (omega arith) (omega (arith, least.0))
      (λ g l u. false_from_ne_true (is_behind after g && test g) (λ both.
      let parts = and_parts (is_behind after g) (test g) both in
      omega (arith, least.3 g (omega (arith, u, least.0)) (not-below g parts.0) parts.1, u)))
      (and_from (is_behind after m) (test m) behind least.2))

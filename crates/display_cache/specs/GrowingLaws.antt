-- A tag more and a file more.
use Rattle.std.proofs.Common.{◌≡◌, ◌∙◌, ◌<◌, ℕ, zero, suc, ◌&&◌, Bool, true, false, cond, Option, None, refl, ap, arith}
use Rattle.tag_types.specs.declared.map_state.MapState.{MapState}
use Rattle.display_cache.specs.Shown.{World, has}
use Rattle.display_cache.specs.Sums.{one, sum_below}
use Rattle.display_cache.specs.Cache.{nothing, Cache, Keeps, Support, given, is_current_by, is_pending_by, is_shown_by, unit_of}
use Rattle.display_cache.specs.SumLaws.{sum-same}

none-given : (h : Bool) (state : Option MapState) → state ≡ None → cond h (unit_of state) nothing ≡ nothing
none-given true state e = rw e refl
none-given false state e = refl

and-false : (x : Bool) → (x && false) ≡ false
and-false true = refl
and-false false = refl

zero-sum : (n : ℕ) (F : ℕ → ℕ) → ((k : ℕ) → k < n → F k ≡ 0) → sum_below n F ≡ 0
zero-sum zero F h = refl
zero-sum (suc n) F h = let a = h n (omega arith) in let b = zero-sum n F (λ k lt. h k (omega (arith, lt))) in omega (arith, a, b)

support-ext : (u v : Support) → u.current ≡ v.current → u.pending ≡ v.pending → u ≡ v
support-ext u v p q =
    let make : ℕ → ℕ → Support = λ m n. record { current = m; pending = n } in
    ap (λ m. make m u.pending) p ∙ ap (make v.current) q

module _ (services : ℕ) (W : World) (c : Cache) (h : Keeps services W c) where
  -- what no tag supports has a support of nothing
  pub zero-support : (s f x : ℕ) → ((t : ℕ) → t < W.tags → given W s f x t ≡ nothing) → c.supports s f x ≡ nothing
  zero-support s f x none = support-ext (c.supports s f x) nothing
      (h.current s f x ∙ zero-sum W.tags (λ t. (given W s f x t).current) (λ t lt. ap (λ u. u.current) (none t lt)))
      (h.pending s f x ∙ zero-sum W.tags (λ t. (given W s f x t).pending) (λ t lt. ap (λ u. u.pending) (none t lt)))

  pub tag-more : ((s f : ℕ) → W.state s W.tags f ≡ None) → ((s f t : ℕ) → t < W.tags → has (W.force s t f) W.tags ≡ false)
      → Keeps services (record W { tags = suc W.tags }) c
  tag-more unmapped unlisted = record {
    current = λ s f x. let e = ap (λ u. u.current) (none-given (has (W.force s W.tags f) x) (W.state s W.tags f) (unmapped s f)) in let old = h.current s f x in omega (arith, old, e);
    pending = λ s f x. let e = ap (λ u. u.pending) (none-given (has (W.force s W.tags f) x) (W.state s W.tags f) (unmapped s f)) in let old = h.pending s f x in omega (arith, old, e);
    counted = record {
      current = h.counted.current;
      pending = h.counted.pending;
      rows = h.counted.rows ∙ sum-same services _ _ (λ s. sum-same W.files _ _ (λ f.
          let e = ap (λ u. one (is_shown_by u)) (zero-support s f W.tags (λ t lt. ap (λ b. cond b (unit_of (W.state s t f)) nothing) (unlisted s f t lt))) in
          omega (arith, e)));
    };
  }

  pub file-more : ((s t : ℕ) → W.state s t W.files ≡ None) → Keeps services (record W { files = suc W.files }) c
  file-more unmapped = record {
    current = h.current;
    pending = h.pending;
    counted = record {
      current = λ s x. let e = ap (λ u. one (W.live W.files && is_current_by u)) (empty s x) ∙ ap one (and-false (W.live W.files)) in let old = h.counted.current s x in omega (arith, old, e);
      pending = λ s x. let e = ap (λ u. one (W.live W.files && is_pending_by u)) (empty s x) ∙ ap one (and-false (W.live W.files)) in let old = h.counted.pending s x in omega (arith, old, e);
      rows = h.counted.rows ∙ sum-same services _ _ (λ s.
          let e = zero-sum W.tags (λ x. one (is_shown_by (c.supports s W.files x))) (λ x lt. ap (λ u. one (is_shown_by u)) (empty s x)) in
          omega (arith, e));
    };
  }
    where
      empty : (s x : ℕ) → c.supports s W.files x ≡ nothing
      empty s x = zero-support s W.files x (λ t lt. none-given (has (W.force s t W.files) x) (W.state s t W.files) (unmapped s t))

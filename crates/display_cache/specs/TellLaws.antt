-- What kept supports tell, and a file that is deleted or live again.
use Rattle.std.proofs.Common.{◌≡◌, ◌∙◌, ℕ, ◌<◌, ◌==◌, ◌&&◌, ◌||◌, not, Bool, true, false, cond, ltb, Option, Some, None, refl, sym, ap}
use Rattle.std.proofs.lemmas.Bool.{eq-eqb}
use Rattle.tag_types.specs.declared.map_state.MapState.{MapState}
use Rattle.tag_types.specs.declared.map_state.MapState.TheVariants.{Current, Pending, Deleted}
use Rattle.display_cache.specs.Shown.{World, count_current, count_pending, has, is_current, is_pending, shows_current, shows_pending, triples}
use Rattle.display_cache.specs.Sums.{how_many, one, some_below}
use Rattle.display_cache.specs.Cache.{nothing, Cache, Keeps, given, is_current_by, is_pending_by, is_shown_by, recounted, unit_of, with_live}
use Rattle.display_cache.specs.Changing.{now_live}
use Rattle.display_cache.specs.SumLaws.{many-one, some-counted, sum-same}

current-given : (state : Option MapState) (h : Bool) → one (is_current state && h) ≡ (cond h (unit_of state) nothing).current
current-given None true = refl
current-given None false = refl
current-given (Some Current) true = refl
current-given (Some Current) false = refl
current-given (Some Pending) true = refl
current-given (Some Pending) false = refl
current-given (Some Deleted) true = refl
current-given (Some Deleted) false = refl

pending-given : (state : Option MapState) (h : Bool) → one (is_pending state && h) ≡ (cond h (unit_of state) nothing).pending
pending-given None true = refl
pending-given None false = refl
pending-given (Some Current) true = refl
pending-given (Some Current) false = refl
pending-given (Some Pending) true = refl
pending-given (Some Pending) false = refl
pending-given (Some Deleted) true = refl
pending-given (Some Deleted) false = refl

module _ (services : ℕ) (W : World) (c : Cache) (h : Keeps services W c) where
  pub tells-current : (s f x : ℕ) → is_current_by (c.supports s f x) ≡ shows_current W s f x
  tells-current s f x =
      ap (ltb 0) (h.current s f x ∙ sym (sum-same W.tags (λ t. one (is_current (W.state s t f) && has (W.force s t f) x)) (λ t. (given W s f x t).current) (λ t. current-given (W.state s t f) (has (W.force s t f) x))))
      ∙ sym (some-counted W.tags (λ t. is_current (W.state s t f) && has (W.force s t f) x))

  some-pending : (s f x : ℕ) → ltb 0 (c.supports s f x).pending ≡ some_below W.tags (λ t. is_pending (W.state s t f) && has (W.force s t f) x)
  some-pending s f x =
      ap (ltb 0) (h.pending s f x ∙ sym (sum-same W.tags (λ t. one (is_pending (W.state s t f) && has (W.force s t f) x)) (λ t. (given W s f x t).pending) (λ t. pending-given (W.state s t f) (has (W.force s t f) x))))
      ∙ sym (some-counted W.tags (λ t. is_pending (W.state s t f) && has (W.force s t f) x))

  pub tells-pending : (s f x : ℕ) → is_pending_by (c.supports s f x) ≡ shows_pending W s f x
  tells-pending s f x =
      ap (λ b. b && not (is_current_by (c.supports s f x))) (some-pending s f x)
      ∙ ap (λ b. some_below W.tags (λ t. is_pending (W.state s t f) && has (W.force s t f) x) && not b) (tells-current s f x)

  pub tells-count : (s x : ℕ) → c.current s x ≡ count_current W s x
  unfolding count_current
  tells-count s x = h.counted.current s x ∙ sum-same W.files (λ f. one (W.live f && is_current_by (c.supports s f x))) (λ f. one (W.live f && shows_current W s f x)) (λ f. ap (λ b. one (W.live f && b)) (tells-current s f x))

  pub tells-count-pending : (s x : ℕ) → c.pending s x ≡ count_pending W s x
  unfolding count_pending
  tells-count-pending s x = h.counted.pending s x ∙ sum-same W.files (λ f. one (W.live f && is_pending_by (c.supports s f x))) (λ f. one (W.live f && shows_pending W s f x)) (λ f. ap (λ b. one (W.live f && b)) (tells-pending s f x))

  pub tells-rows : c.rows ≡ triples services W
  unfolding triples
  tells-rows = h.counted.rows ∙ sum-same services _ _ (λ s. sum-same W.files _ _ (λ f. sum-same W.tags (λ x. one (is_shown_by (c.supports s f x))) (λ x. one (shows_current W s f x || shows_pending W s f x))
      (λ x. ap (λ b. one (b || is_pending_by (c.supports s f x))) (tells-current s f x) ∙ ap (λ b. one (shows_current W s f x || b)) (tells-pending s f x))))

count-live : (files : ℕ) (live test : ℕ → Bool) (f : ℕ) (now : Bool) → f < files
    → how_many files (λ g. cond (g == f) now (live g) && test g) ≡ recounted (live f && test f) (now && test f) (how_many files (λ g. live g && test g))
count-live files live test f now lt =
    many-one files (λ g. live g && test g) (λ g. cond (g == f) now (live g) && test g) f lt (λ g out. rw out refl)
    ∙ ap (λ b. recounted (live f && test f) (cond b now (live f) && test f) (how_many files (λ g. live g && test g))) (eq-eqb f f refl)

pub live-moves : (services : ℕ) (W : World) (f : ℕ) (now : Bool) (c : Cache) → f < W.files → Keeps services W c
    → Keeps services (now_live f now W) (with_live W.live f now c)
live-moves services W f now c lt h = record {
  current = h.current;
  pending = h.pending;
  counted = record {
    current = λ s x. ap (recounted (W.live f && is_current_by (c.supports s f x)) (now && is_current_by (c.supports s f x))) (h.counted.current s x)
        ∙ sym (count-live W.files W.live (λ g. is_current_by (c.supports s g x)) f now lt);
    pending = λ s x. ap (recounted (W.live f && is_pending_by (c.supports s f x)) (now && is_pending_by (c.supports s f x))) (h.counted.pending s x)
        ∙ sym (count-live W.files W.live (λ g. is_pending_by (c.supports s g x)) f now lt);
    rows = h.counted.rows;
  };
}

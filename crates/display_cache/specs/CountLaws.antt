-- Counts of supports, once one support is set.
use Rattle.std.proofs.Common.{◌≡◌, ◌∙◌, ℕ, ◌<◌, ◌==◌, ◌&&◌, Bool, true, false, cond, refl, sym, ap, arith}
use Rattle.std.proofs.lemmas.Bool.{eqb-true, eq-eqb}
use Rattle.display_cache.specs.Sums.{how_many, one, sum_below}
use Rattle.display_cache.specs.Cache.{AreCounted, Cache, Support, is_current_by, is_pending_by, is_shown_by, recounted, with_support}
use Rattle.display_cache.specs.SumLaws.{many-one, sum-has, sum-one, sum-same}

and-false : (x : Bool) → (x && false) ≡ false
and-false true = refl
and-false false = refl

module _ (s f x : ℕ) (new : Support) (S : ℕ → ℕ → ℕ → Support) where
  -- the supports with one of them set
  abbrev pub set_at : ℕ → ℕ → ℕ → Support
  set_at a b y = cond ((a == s && b == f) && y == x) new (S a b y)

  pub set-here : set_at s f x ≡ new
  set-here = rw (eq-eqb s s refl, eq-eqb f f refl, eq-eqb x x refl) refl

  pub set-other-service : (a b y : ℕ) → (a == s) ≡ false → set_at a b y ≡ S a b y
  set-other-service a b y e = rw e refl

  pub set-other-file : (a b y : ℕ) → (b == f) ≡ false → set_at a b y ≡ S a b y
  set-other-file a b y e = rw (e, and-false (a == s)) refl

  pub set-other-tag : (a b y : ℕ) → (y == x) ≡ false → set_at a b y ≡ S a b y
  set-other-tag a b y e = rw (e, and-false (a == s && b == f)) refl

  -- how many files pass a test of their support
  module _ (files : ℕ) (live : ℕ → Bool) (test : Support → Bool) (lt : f < files) where
    abbrev count : (ℕ → ℕ → ℕ → Support) → ℕ → ℕ → ℕ
    count T a y = how_many files (λ b. live b && test (T a b y))

    count-here : count set_at s x ≡ recounted (live f && test (S s f x)) (live f && test new) (count S s x)
    count-here =
        let e = many-one files (λ b. live b && test (S s b x)) (λ b. live b && test (set_at s b x)) f lt
        (λ b out. ap (λ u. live b && test u) (set-other-file s b x out)) in
        e ∙ ap (λ u. recounted (live f && test (S s f x)) (live f && test u) (count S s x)) set-here

    pub count-set : (a y m : ℕ) → m ≡ count S a y
        → cond (a == s && y == x) (recounted (live f && test (S s f x)) (live f && test new) m) m ≡ count set_at a y
    count-set a y m e = by (a == s) (y == x) refl refl
      where
        by : (i j : Bool) → (a == s) ≡ i → (y == x) ≡ j
            → cond (i && j) (recounted (live f && test (S s f x)) (live f && test new) m) m ≡ count set_at a y
        by true true p q =
            let ss : a ≡ s = eqb-true a s p in
            let xx : y ≡ x = eqb-true y x q in
            ap (recounted (live f && test (S s f x)) (live f && test new)) (e ∙ ap (λ b. count S b y) ss ∙ ap (count S s) xx)
            ∙ sym count-here ∙ sym (ap (λ b. count set_at b y) ss ∙ ap (count set_at s) xx)
        by true false p q = e ∙ sym (sum-same files (λ b. one (live b && test (set_at a b y))) (λ b. one (live b && test (S a b y))) (λ b. ap (λ u. one (live b && test u)) (set-other-tag a b y q)))
        by false j p q = e ∙ sym (sum-same files (λ b. one (live b && test (set_at a b y))) (λ b. one (live b && test (S a b y))) (λ b. ap (λ u. one (live b && test u)) (set-other-service a b y p)))

  -- how many triples pass
  pub triples-set : (services tags files : ℕ) (test : Support → Bool) → s < services → f < files → x < tags
      → recounted (test (S s f x)) (test new) (sum_below services (λ a. sum_below files (λ b. how_many tags (λ y. test (S a b y)))))
      ≡ sum_below services (λ a. sum_below files (λ b. how_many tags (λ y. test (set_at a b y))))
  triples-set services tags files test hs hf hx =
      let old1 : ℕ → ℕ = λ a. sum_below files (λ b. how_many tags (λ y. test (S a b y))) in
      let new1 : ℕ → ℕ = λ a. sum_below files (λ b. how_many tags (λ y. test (set_at a b y))) in
      let old2 : ℕ → ℕ = λ b. how_many tags (λ y. test (S s b y)) in
      let new2 : ℕ → ℕ = λ b. how_many tags (λ y. test (set_at s b y)) in
      let old3 : ℕ → ℕ = λ y. one (test (S s f y)) in
      let new3 : ℕ → ℕ = λ y. one (test (set_at s f y)) in
      let three = sum-one tags old3 new3 x hx (λ y out. ap (λ u. one (test u)) (set-other-tag s f y out)) in
      let two = sum-one files old2 new2 f hf (λ b out. sum-same tags (λ y. one (test (set_at s b y))) (λ y. one (test (S s b y))) (λ y. ap (λ u. one (test u)) (set-other-file s b y out))) in
      let one-service = sum-one services old1 new1 s hs (λ a out. sum-same files (λ b. how_many tags (λ y. test (set_at a b y))) (λ b. how_many tags (λ y. test (S a b y)))
      (λ b. sum-same tags (λ y. one (test (set_at a b y))) (λ y. one (test (S a b y))) (λ y. ap (λ u. one (test u)) (set-other-service a b y out)))) in
      let here : new3 x ≡ one (test new) = ap (λ u. one (test u)) set-here in
      let has1 = sum-has services old1 s hs in
      let has2 = sum-has files old2 f hf in
      let has3 = sum-has tags old3 x hx in
      omega (arith, three, two, one-service, here, has1, has2, has3)

pub setting-keeps : (services tags files : ℕ) (live : ℕ → Bool) (s f x : ℕ) (new : Support) (c : Cache)
    → s < services → f < files → x < tags → AreCounted services tags files live c
    → AreCounted services tags files live (with_support live s f x new c)
setting-keeps services tags files live s f x new c hs hf hx h = record {
  current = λ a y. count-set s f x new c.supports files live is_current_by hf a y (c.current a y) (h.current a y);
  pending = λ a y. count-set s f x new c.supports files live is_pending_by hf a y (c.pending a y) (h.pending a y);
  rows = ap (recounted (is_shown_by (c.supports s f x)) (is_shown_by new)) h.rows ∙ triples-set s f x new c.supports services tags files is_shown_by hs hf hx;
}

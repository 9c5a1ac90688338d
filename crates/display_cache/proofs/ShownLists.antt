-- The tags that a file shows, from its supports.
use Rattle.std.proofs.Common.{◌≡◌, ◌∙◌, ◌+◌, ◌<◌, ◌≤◌, ◌||◌, ◌++◌, ℕ, zero, suc, Bool, true, false, cond, List, [], ◌∷◌, filter, map, refl, sym, ap, inl, inr, arith}
use Rattle.std.proofs.Math.Path.{fun_ext}
use Rattle.std.specs.List.{AllByRecursion, range_with_len}
use Rattle.std.proofs.lemmas.Bool.{cases_eq, cases_lt, ne_eqb}
use Rattle.std.proofs.lemmas.List.{append-nil, map-append}
use Rattle.std.proofs.lemmas.List.Elements.{filter-append, recursion_from_All}
use Rattle.media_types.specs.declared.numbers.TagNo.{TagNo}
use Rattle.tag_types.specs.declared.limits.TheConstants.{MAX_SERVICES}
use Rattle.tag_store.specs.Mapped.{Row, state_of}
use Rattle.display_cache.specs.Cache.{Cache, Support, is_pending_by, is_shown_by, nothing, shown_piece, unit_of}
use Rattle.display_cache.specs.Displayed.{DisplayView, IsOf, cache_of, records_in}
use Rattle.display_cache.specs.GrowingLaws.{zero-support}
use Rattle.display_cache.specs.Recorded.{applied, world_of}
use Rattle.display_cache.specs.Shown.{World, has, numbered, shown_tags, shows_current, shows_pending}
use Rattle.display_cache.specs.TellLaws.{tells-current, tells-pending}

-- the tags below a number that are shown by these supports
abbrev pub shown_by : (ℕ → Support) → ℕ → List (TagNo × Bool)
shown_by S n = map (λ x. (numbered x, is_pending_by (S x))) (filter (λ x. is_shown_by (S x)) (range_with_len 0 n))

range-more : (a n : ℕ) → range_with_len a (suc n) ≡ range_with_len a n ++ (a + n) ∷ []
range-more a zero = ap (λ k. k ∷ []) (omega arith)
range-more a (suc n) = ap (λ l. a ∷ l) (range-more (a + 1) n ∙ ap (λ k. range_with_len (a + 1) n ++ k ∷ []) (omega arith))

module _ (S : ℕ → Support) where
  pub shown-push : (n : ℕ) → shown_by S (suc n) ≡ shown_by S n ++ shown_piece n (S n)
  shown-push n =
      let test : ℕ → Bool = λ x. is_shown_by (S x) in
      let tell : ℕ → TagNo × Bool = λ x. (numbered x, is_pending_by (S x)) in
      ap (λ list. map tell (filter test list)) (range-more 0 n ∙ ap (λ k. range_with_len 0 n ++ k ∷ []) (omega arith))
      ∙ ap (map tell) (filter-append test (range_with_len 0 n) (n ∷ []))
      ∙ map-append tell (filter test (range_with_len 0 n)) (filter test (n ∷ []))
      ∙ ap (λ list. shown_by S n ++ list) (by (test n))
    where
      by : (b : Bool) → map {B = TagNo × Bool} (λ x. (numbered x, is_pending_by (S x))) (cond b (n ∷ []) []) ≡ cond b ((numbered n, is_pending_by (S n)) ∷ []) []
      by true = refl
      by false = refl

  -- where none is shown between two numbers, the tags below them are the same
  pub shown-same : (a b : ℕ) → a ≤ b → ((y : ℕ) → a ≤ y → y < b → is_shown_by (S y) ≡ false) → shown_by S b ≡ shown_by S a
  shown-same a zero le none = let same : 0 ≡ a = omega (arith, le) in ap (shown_by S) same
  shown-same a (suc b) le none = elim (cases_eq a (suc b)) [
    | inl same ↦ ap (shown_by S) (sym same)
    | inr other ↦
        shown-push b ∙ ap (λ t. shown_by S b ++ cond t ((numbered b, is_pending_by (S b)) ∷ []) []) (none b (omega (arith, le, other)) (omega arith))
        ∙ append-nil (shown_by S b) ∙ shown-same a b (omega (arith, le, other)) (λ y l u. none y l (omega (arith, u)))
  ]

has-past : (n y : ℕ) (list : List ℕ) → n ≤ y → AllByRecursion (λ x. x < n) list → has list y ≡ false
has-past n y [] le all = refl
has-past n y (x ∷ list) le all = rw (ne_eqb y x (λ same. omega (arith, same, le, all.0))) (has-past n y list le all.1)

module _ (n m : ℕ) (mappings : List Row) (v : DisplayView) (is : IsOf n m mappings v) (s f : ℕ) where
  -- a tag that isn't there is not shown
  not-shown-past : (y : ℕ) → n ≤ y → is_shown_by ((cache_of v).supports s f y) ≡ false
  not-shown-past y le = ap is_shown_by (zero-support MAX_SERVICES (world_of (records_in n m mappings v)) (cache_of v) is.kept s f y
      (λ t lt. ap (λ b. cond b (unit_of (state_of mappings s t f)) nothing) (has-past n y (applied v.lists s t) le (recursion_from_All (λ x. x < n) (applied v.lists s t) (is.there s t lt)))))

  pub shown-is : shown_by ((cache_of v).supports s f) n ≡ shown_tags (world_of (records_in n m mappings v)) s f
  unfolding shown_tags
  shown-is =
      let W : World = world_of (records_in n m mappings v) in
      let c : Cache = cache_of v in
      let tests : (λ x. is_shown_by (c.supports s f x)) ≡ (λ x. shows_current W s f x || shows_pending W s f x) = fun_ext (λ x.
      ap (λ b. b || is_pending_by (c.supports s f x)) (tells-current MAX_SERVICES W c is.kept s f x) ∙ ap (λ b. shows_current W s f x || b) (tells-pending MAX_SERVICES W c is.kept s f x)) in
      let marks : (λ x. is_pending_by (c.supports s f x)) ≡ shows_pending W s f = fun_ext (tells-pending MAX_SERVICES W c is.kept s f) in
      ap (λ (test : ℕ → Bool). map (λ x. (numbered x, is_pending_by (c.supports s f x))) (filter test (range_with_len 0 n))) tests
      ∙ ap (λ (mark : ℕ → Bool). map (λ x. (numbered x, mark x)) (filter (λ x. shows_current W s f x || shows_pending W s f x) (range_with_len 0 n))) marks

  -- what is told once no tag from a number on has a support
  pub shown-whole : (from : ℕ) → ((y : ℕ) → from ≤ y → y < n → is_shown_by ((cache_of v).supports s f y) ≡ false)
      → shown_by ((cache_of v).supports s f) from ≡ shown_tags (world_of (records_in n m mappings v)) s f
  shown-whole from none = elim (cases_lt n from) [
    | inl past ↦ shown-same ((cache_of v).supports s f) n from (omega (arith, past)) (λ y l u. not-shown-past y l) ∙ shown-is
    | inr le ↦ sym (shown-same ((cache_of v).supports s f) from n le none) ∙ shown-is
  ]

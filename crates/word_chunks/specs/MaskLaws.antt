-- Each number of few bits stands once among the masks, and no other number does.
use Rattle.std.proofs.Common.{◌≡◌, ◌≢◌, ◌∙◌, ℕ, zero, suc, ◌+◌, ◌<◌, ◌≤◌, ◌==◌, nat_le, Bool, true, false, cond, inl, inr, List, [], ◌∷◌, ◌++◌, length, get_or, map, filter, sum_by, All, count_ones, refl, sym, ap, length-append, arith}
use Rattle.std.specs.List.{range_with_len}
use Rattle.std.proofs.lemmas.Bool.{cases_lt, le-leb, lt-leb}
use Rattle.std.proofs.lemmas.Bool.Decides.{eqb_tells}
use Rattle.std.proofs.lemmas.List.Elements.{All-append, All-cons, All-nil}
use Rattle.std.proofs.lemmas.List.FromFn.{filter_of_map_range_with_len_more}
use Rattle.std.proofs.lemmas.List.Sums.{sum_by-cons, sum_by_push}
use Rattle.word_chunks.specs.Masks.{masks_below}

-- 1 at the number j, and 0 at all others
abbrev pub one_at : ℕ → ℕ → ℕ
one_at j k = cond (k == j) 1 0

-- the masks below `end` of at most so many bits, each once
pub record IsMasks (end bits : ℕ) (masks : List ℕ) : Type 0 where
  pub few : All (λ mask. (mask < end) × (count_ones mask ≤ bits)) masks
  pub each : (mask : ℕ) → mask < end → count_ones mask ≤ bits → sum_by (one_at mask) masks ≡ 1
  pub len : length masks ≤ end

pub one_at-other : (j k : ℕ) → k ≢ j → one_at j k ≡ 0
one_at-other j k ne = elim (eqb_tells k j) [ inl same ↦ absurd (ne same.1) | inr other ↦ rw other.0 refl ]

pub one_at-same : (j : ℕ) → one_at j j ≡ 1
one_at-same j = elim (eqb_tells j j) [ inl same ↦ rw same.0 refl | inr other ↦ absurd (other.1 refl) ]

none_there : (a : ℕ) (masks : List ℕ) → All (λ mask. mask ≢ a) masks → sum_by (one_at a) masks ≡ 0
none_there a [] apart = refl
none_there a (mask ∷ masks) apart =
    omega (
      arith,
      sum_by-cons (one_at a) mask masks,
      one_at-other a mask (apart 0 mask (omega arith)),
      none_there a masks (λ k d lt. apart (suc k) d (omega (arith, lt))),
    )

wider : (end bits : ℕ) (masks : List ℕ) → All (λ mask. (mask < end) × (count_ones mask ≤ bits)) masks → All (λ mask. (mask < end + 1) × (count_ones mask ≤ bits)) masks
wider end bits masks few k d lt =
    let both : ((get_or masks k d < end) × (count_ones (get_or masks k d) ≤ bits)) = few k d lt in
    (omega (arith, both.0), both.1)

new_mask : (end bits : ℕ) (masks : List ℕ) → All (λ mask. (mask < end) × (count_ones mask ≤ bits)) masks → sum_by (one_at end) masks ≡ 0
new_mask end bits masks few =
    none_there end masks
    (λ k d lt. let both : ((get_or masks k d < end) × (count_ones (get_or masks k d) ≤ bits)) = few k d lt in
    λ same. omega (arith, both.0, same))

one_more : (end bits : ℕ) (masks : List ℕ) → IsMasks end bits masks → count_ones end ≤ bits → IsMasks (end + 1) bits (masks ++ end ∷ [])
one_more end bits masks h le = record {
  few = All-append (λ mask. (mask < end + 1) × (count_ones mask ≤ bits)) masks (end ∷ []) (wider end bits masks h.few)
      (All-cons (λ mask. (mask < end + 1) × (count_ones mask ≤ bits)) end [] (omega arith, le) (All-nil (λ mask. (mask < end + 1) × (count_ones mask ≤ bits))));
  each = λ m lt near. elim (cases_lt m end) [
    | inl old ↦ omega (arith, sum_by_push (one_at m) masks end, h.each m old near, one_at-other m end (λ same. omega (arith, same, old)))
    | inr new ↦ let at : end ≡ m = omega (arith, new, lt) in
        ap (λ i. sum_by (one_at i) (masks ++ end ∷ [])) (sym at) ∙ omega (arith, sum_by_push (one_at end) masks end, new_mask end bits masks h.few, one_at-same end)
  ];
  len = omega (arith, length-append masks (end ∷ []), h.len);
}

none_more : (end bits : ℕ) (masks : List ℕ) → IsMasks end bits masks → bits < count_ones end → IsMasks (end + 1) bits masks
none_more end bits masks h more = record {
  few = wider end bits masks h.few;
  each = λ m lt near. elim (cases_lt m end) [
    | inl old ↦ h.each m old near
    | inr new ↦ let at : end ≡ m = omega (arith, new, lt) in
        let same : count_ones end ≡ count_ones m = ap count_ones at in
        absurd (omega (arith, same, near, more))
  ];
  len = omega (arith, h.len);
}

map-itself : (ns : List ℕ) → map (λ n. n) ns ≡ ns
map-itself [] = refl
map-itself (n ∷ ns) = ap (λ later. n ∷ later) (map-itself ns)

-- ---- the masks below the next number
masks_next : (bits end : ℕ) → masks_below bits (end + 1) ≡ masks_below bits end ++ cond (nat_le (count_ones end) bits) (end ∷ []) []
unfolding masks_below
masks_next bits end =
    ap (filter (λ mask. nat_le (count_ones mask) bits)) (sym (map-itself (range_with_len 0 (end + 1))))
    ∙ filter_of_map_range_with_len_more (λ mask. nat_le (count_ones mask) bits) (λ n. n) 0 end end (omega arith)
    ∙ ap (λ ns. filter (λ mask. nat_le (count_ones mask) bits) ns ++ cond (nat_le (count_ones end) bits) (end ∷ []) []) (map-itself (range_with_len 0 end))

pub masks_none : (bits : ℕ) → masks_below bits 0 ≡ []
unfolding masks_below
masks_none bits = refl

pub masks_push : (bits end : ℕ) → count_ones end ≤ bits → masks_below bits (end + 1) ≡ masks_below bits end ++ end ∷ []
masks_push bits end le = masks_next bits end ∙ ap (λ b. masks_below bits end ++ cond b (end ∷ []) []) (le-leb (count_ones end) bits le)

append-none : (ns : List ℕ) → ns ++ [] ≡ ns
append-none [] = refl
append-none (n ∷ ns) = ap (λ later. n ∷ later) (append-none ns)

pub masks_pass : (bits end : ℕ) → bits < count_ones end → masks_below bits (end + 1) ≡ masks_below bits end
masks_pass bits end lt =
    masks_next bits end ∙ ap (λ b. masks_below bits end ++ cond b (end ∷ []) []) (lt-leb (count_ones end) bits lt)
    ∙ append-none (masks_below bits end)

pub masks_are : (end bits : ℕ) → IsMasks end bits (masks_below bits end)
masks_are zero bits = rw (masks_none bits) (record {
  few = All-nil (λ mask. (mask < 0) × (count_ones mask ≤ bits));
  each = λ mask lt le. absurd (omega (arith, lt));
  len = omega arith;
})
masks_are (suc end) bits =
    let next : suc end ≡ end + 1 = omega arith in
    rw next
    (elim (cases_lt bits (count_ones end)) [
      | inl past ↦ rw (masks_pass bits end past) (none_more end bits (masks_below bits end) (masks_are end bits) past)
      | inr few ↦ rw (masks_push bits end few) (one_more end bits (masks_below bits end) (masks_are end bits) few)
    ])

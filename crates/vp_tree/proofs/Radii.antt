-- The least radius within which at least half of some points lie.
use Rattle.std.proofs.Common.{◌≡◌, ◌∙◌, ℕ, zero, suc, ◌+◌, ◌*◌, ◌<◌, ◌≤◌, ◌==◌, nat_le, nat_lt, Bool, true, false, cond, List, [], ◌∷◌, length, count_by, take, get_or, refl, sym, ap, inl, inr, arith}
use Rattle.std.proofs.Math.ListN.{set}
use Rattle.std.proofs.lemmas.Bool.{both_ways, cond_both, le-leb, le-ltb, lt-leb}
use Rattle.std.proofs.lemmas.Bool.Decides.{nat_tests, eqb_tells}
use Rattle.std.proofs.lemmas.List.{get_or-set_same, get_or-set_other, length-take}
use Rattle.std.proofs.lemmas.List.Sums.{count_by_more_yes, count_by_more_no, count_by-le-length, length-filter, sum_by-cons}
use Rattle.media_types.specs.Distance.{distance_of}
use Rattle.vp_tree.specs.declared.building.Point.{Point}
use Rattle.vp_tree.specs.Building.{points_within, has_half, least_from, least_radius}

abbrev away : Point → Point → ℕ
away p q = distance_of q.word p.word

-- one more point is counted at its distance
pub tallied-more : (p : Point) (qs : List Point) (i d e : ℕ) (q : Point) (counts : List ℕ) → i < length qs → e ≡ away p (get_or qs i q)
    → e < length counts → get_or counts d 0 ≡ count_by (λ x. away p x == d) (take i qs)
    → get_or (set counts e (get_or counts e 0 + 1)) d 0 ≡ count_by (λ x. away p x == d) (take (i + 1) qs)
tallied-more p qs i d e q counts lt far fits had =
    let test : (away p (get_or qs i q) == d) ≡ (e == d) = ap (λ n. n == d) (sym far) in
    elim (eqb_tells e d) [
      | inl same ↦
          let one : count_by (λ x. away p x == d) (take (i + 1) qs) ≡ count_by (λ x. away p x == d) (take i qs) + 1 =
          count_by_more_yes (λ x. away p x == d) qs i q lt (test ∙ same.0) in
          let value : get_or counts e 0 ≡ get_or counts d 0 = ap (λ n. get_or counts n 0) same.1 in
          ap (λ n. get_or (set counts e (get_or counts e 0 + 1)) n 0) (sym same.1) ∙ get_or-set_same counts e (get_or counts e 0 + 1) 0 fits ∙ omega (arith, one, had, value)
      | inr other ↦
          get_or-set_other counts e d (get_or counts e 0 + 1) 0 (λ same. other.1 (sym same)) ∙ had
          ∙ sym (count_by_more_no (λ x. away p x == d) qs i q lt (test ∙ other.0))
    ]

-- no more points than were looked at lie at a distance
pub tallied-few : (p : Point) (qs : List Point) (i d n : ℕ) → n ≡ count_by (λ x. away p x == d) (take i qs) → n ≤ length qs
tallied-few p qs i d n e = omega (arith, count_by-le-length (λ x. away p x == d) (take i qs), length-take i qs)

abbrev one_if : Bool → ℕ
one_if b = cond b 1 0

one-nearer : (a r : ℕ) → one_if (nat_lt a (r + 1)) ≡ one_if (nat_lt a r) + one_if (a == r)
one-nearer a r = grind (arith, nat_tests)

-- the points at a distance join those that are nearer
pub nearer-more : (p : Point) (qs : List Point) (r : ℕ)
    → count_by (λ x. nat_lt (away p x) (r + 1)) qs ≡ count_by (λ x. nat_lt (away p x) r) qs + count_by (λ x. away p x == r) qs
nearer-more p [] r = refl
nearer-more p (q ∷ qs) r =
    omega (
      arith,
      sum_by-cons (λ x. one_if (nat_lt (away p x) (r + 1))) q qs,
      sum_by-cons (λ x. one_if (nat_lt (away p x) r)) q qs,
      sum_by-cons (λ x. one_if (away p x == r)) q qs,
      one-nearer (away p q) r,
      nearer-more p qs r,
    )

pub nearer-add : (p : Point) (qs : List Point) (r n m : ℕ) → n ≡ count_by (λ x. nat_lt (away p x) r) qs → m ≡ count_by (λ x. away p x == r) qs
    → n + m ≡ count_by (λ x. nat_lt (away p x) (r + 1)) qs
nearer-add p qs r n m e f = omega (arith, e, f, nearer-more p qs r)

pub none-nearer : (p : Point) (qs : List Point) → count_by (λ x. nat_lt (away p x) 0) qs ≡ 0
none-nearer p [] = refl
none-nearer p (q ∷ qs) =
    let none : nat_lt (away p q) 0 ≡ false = le-ltb (away p q) 0 (omega arith) in
    omega (arith, sum_by-cons (λ x. one_if (nat_lt (away p x) 0)) q qs, ap one_if none, none-nearer p qs)

within_or_nearer : (a r : ℕ) → one_if (nat_le a r) ≡ one_if (nat_lt a (r + 1))
within_or_nearer a r = grind (arith, nat_tests)

within-nearer : (p : Point) (qs : List Point) (r : ℕ) → count_by (λ x. nat_le (away p x) r) qs ≡ count_by (λ x. nat_lt (away p x) (r + 1)) qs
within-nearer p [] r = refl
within-nearer p (q ∷ qs) r =
    omega (
      arith,
      sum_by-cons (λ x. one_if (nat_le (away p x) r)) q qs,
      sum_by-cons (λ x. one_if (nat_lt (away p x) (r + 1))) q qs,
      within_or_nearer (away p q) r,
      within-nearer p qs r,
    )

length-points_within : (p : Point) (qs : List Point) (r : ℕ) → length (points_within p qs r) ≡ count_by (λ x. nat_lt (away p x) (r + 1)) qs
length-points_within p qs r = length-filter (λ x. nat_le (away p x) r) qs ∙ within-nearer p qs r

pub half-reached : (p : Point) (qs : List Point) (r n : ℕ) → n ≡ count_by (λ x. nat_lt (away p x) (r + 1)) qs → length qs ≤ 2 * n → has_half p qs r ≡ true
half-reached p qs r n e h = le-leb (length qs) (2 * length (points_within p qs r)) (omega (arith, length-points_within p qs r))

pub half-missed : (p : Point) (qs : List Point) (r n : ℕ) → n ≡ count_by (λ x. nat_lt (away p x) (r + 1)) qs → 2 * n < length qs → has_half p qs r ≡ false
half-missed p qs r n e h = lt-leb (length qs) (2 * length (points_within p qs r)) (omega (arith, length-points_within p qs r))

least_from-if : (b : Bool) (more : ℕ) (p : Point) (qs : List Point) (a r : ℕ) → has_half p qs a ≡ b → a ≤ r → r ≤ a + suc more
    → ((s : ℕ) → s < r → has_half p qs s ≡ false) → (r < a + suc more → has_half p qs r ≡ true)
    → (a + 1 ≤ r → least_from more p qs (a + 1) ≡ r) → cond b a (least_from more p qs (a + 1)) ≡ r
least_from-if true more p qs a r e le up low here next =
    elim (eqb_tells a r) [
      | inl same ↦ same.1
      | inr other ↦ absurd (let missed : has_half p qs a ≡ false = low a (omega (arith, le, other.1)) in both_ways (has_half p qs a) missed e)
    ]
least_from-if false more p qs a r e le up low here next =
    elim (eqb_tells a r) [
      | inl same ↦ absurd (let reached : has_half p qs r ≡ true = here (omega (arith, same.1)) in both_ways (has_half p qs a) e (ap (has_half p qs) same.1 ∙ reached))
      | inr other ↦ next (omega (arith, le, other.1))
    ]

least_from-is : (more : ℕ) (p : Point) (qs : List Point) (a r : ℕ) → a ≤ r → r ≤ a + more
    → ((s : ℕ) → s < r → has_half p qs s ≡ false) → (r < a + more → has_half p qs r ≡ true) → least_from more p qs a ≡ r
least_from-is zero p qs a r le up low here = omega (arith, le, up)
least_from-is (suc more) p qs a r le up low here =
    least_from-if (has_half p qs a) more p qs a r refl le up low here
    (λ next. least_from-is more p qs (a + 1) r next (omega (arith, up)) low (λ lt. here (omega (arith, lt))))

pub least_radius-is : (p : Point) (qs : List Point) (r : ℕ) → r ≤ 64 → ((s : ℕ) → s < r → has_half p qs s ≡ false)
    → (r < 64 → has_half p qs r ≡ true) → least_radius p qs ≡ r
unfolding least_radius
least_radius-is p qs r up low here = least_from-is 64 p qs 0 r (omega arith) (omega (arith, up)) low (λ lt. here (omega (arith, lt)))

least_from-le : (more : ℕ) (p : Point) (qs : List Point) (a : ℕ) → least_from more p qs a ≤ a + more
least_from-le zero p qs a = omega arith
least_from-le (suc more) p qs a = cond_both (has_half p qs a) a (least_from more p qs (a + 1)) (λ r. r ≤ a + suc more) (λ _. omega arith) (λ _. omega (arith, least_from-le more p qs (a + 1)))

pub least_radius-le : (p : Point) (qs : List Point) → least_radius p qs ≤ 64
unfolding least_radius
least_radius-le p qs = least_from-le 64 p qs 0

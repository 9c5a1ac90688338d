-- The least of some distances, by how many there are of each.
use Rattle.std.proofs.Common.{◌≡◌, ◌≢◌, ◌⊎◌, ◌∙◌, ◌≤◌, ◌<◌, ◌+◌, ◌==◌, ℕ, Bool, true, false, cond, min, nat_lt, count_by, get_or, length, List, [], ◌∷◌, Option, Some, None, IsSome, refl, sym, ap, inl, inr, arith}
use Rattle.std.specs.List.{position, position_or_len}
use Rattle.std.proofs.lemmas.List.Quantifiers.{position-Some}
use Rattle.std.specs.Option.{is_some, option_map}
use Rattle.std.proofs.lemmas.Bool.{cases_Bool, cases_lt, cases_order, eq-eqb, ne_eqb, ltb-false, ltb-true, lt-ltb, le-ltb}
use Rattle.std.proofs.lemmas.List.{get_or_past}
use Rattle.std.proofs.lemmas.List.Sums.{fails_before_first, position_or_len_is, sum_by-cons}
use Rattle.media_types.specs.Least.{least, lesser}
use Rattle.potential_pairs.specs.declared.tally.Tally.{Tally}
use Rattle.potential_pairs.specs.Keeping.{least_of}
use Rattle.potential_pairs.specs.Tallies.{count_at, if_any, least_counted}

-- how many of the distances are this one
abbrev pub count_equal : ℕ → List ℕ → ℕ
count_equal d ds = count_by (λ e. e == d) ds

-- 1 where the test passes, and else 0
abbrev pub one_if : Bool → ℕ
one_if b = cond b 1 0

one_if_same : (d e : ℕ) → d ≡ e → one_if (d == e) ≡ 1
one_if_same d e same = rw (eq-eqb d e same) refl

one_if_apart : (d e : ℕ) → d ≢ e → one_if (d == e) ≡ 0
one_if_apart d e apart = rw (ne_eqb d e apart) refl

pub equal-cons : (d e : ℕ) (es : List ℕ) → count_equal d (e ∷ es) ≡ one_if (e == d) + count_equal d es
equal-cons d e es = sum_by-cons (λ v. cond (v == d) 1 0) e es

empty_if_none : (ds : List ℕ) → least ds ≡ None → ds ≡ []
empty_if_none [] none = refl
empty_if_none (d ∷ ds) none = cc

-- there is some of the least, and none of any that is less
least_is : (ds : List ℕ) (m : ℕ) → least ds ≡ Some m → (1 ≤ count_equal m ds) × ((e : ℕ) → e < m → count_equal e ds ≡ 0)
least_is [] m is = cc
least_is (d ∷ ds) m is = by (least ds) refl is (least_is ds) where
  by : (rest : Option ℕ) → least ds ≡ rest → lesser d rest ≡ Some m → ((n : ℕ) → least ds ≡ Some n → (1 ≤ count_equal n ds) × ((e : ℕ) → e < n → count_equal e ds ≡ 0))
      → (1 ≤ count_equal m (d ∷ ds)) × ((e : ℕ) → e < m → count_equal e (d ∷ ds) ≡ 0)
  by None none same again =
      let first : d ≡ m = cc in
      let here = one_if_same d m first in
      let nothing : (e : ℕ) → count_equal e ds ≡ 0 = λ e. ap (count_equal e) (empty_if_none ds none) in (
        omega (arith, equal-cons m d ds, here),
        λ e less. let there = one_if_apart d e (λ same. omega (arith, same, less, first)) in omega (arith, equal-cons e d ds, there, nothing e),
      )
  by (Some n) some same again =
      let first : min d n ≡ m = cc in
      let rest = again n some in (
        elim (cases_lt n d) [
          | inl lower ↦ let is : n ≡ m = omega (arith, first, lower) in omega (arith, equal-cons m d ds, ap (λ k. count_equal k ds) is, rest.0)
          | inr within ↦ let here = one_if_same d m (omega (arith, first, within)) in omega (arith, equal-cons m d ds, here)
        ],
        λ e less. let there = one_if_apart d e (λ same. omega (arith, same, less, first)) in omega (arith, equal-cons e d ds, there, rest.1 e (omega (arith, less, first))),
      )

-- ---- the first number that isn't 0
none_counted : (counts : List ℕ) → position (λ count. nat_lt 0 count) counts ≡ None → (d : ℕ) → get_or counts d 0 ≡ 0
none_counted counts none d = by (cases_Bool (nat_lt (position_or_len (λ count. nat_lt 0 count) counts) (length counts))) where
  by : (nat_lt (position_or_len (λ count. nat_lt 0 count) counts) (length counts) ≡ true) ⊎ (nat_lt (position_or_len (λ count. nat_lt 0 count) counts) (length counts) ≡ false) → get_or counts d 0 ≡ 0
  by (inl found) = let is = rw found at none in cc
  by (inr past) =
      let end = ltb-false (position_or_len (λ count. nat_lt 0 count) counts) (length counts) past in
      elim (cases_lt d (length counts)) [
        | inl inside ↦ let fails = fails_before_first (λ count. nat_lt 0 count) counts d 0 (omega (arith, end, inside)) in omega (arith, ltb-false 0 (get_or counts d 0) fails)
        | inr outside ↦ get_or_past counts d 0 outside
      ]

some_counted : (counts : List ℕ) (m : ℕ) → position (λ count. nat_lt 0 count) counts ≡ Some m → (0 < get_or counts m 0) × ((e : ℕ) → e < m → get_or counts e 0 ≡ 0)
some_counted counts m some =
    let at = position-Some (λ count. nat_lt 0 count) counts m 0 some in
    (ltb-true 0 (get_or counts m 0) at.1, λ e less. omega (arith, ltb-false 0 (get_or counts e 0) (at.2 e less)))

pub first_counted : (counts : List ℕ) (i : ℕ) → i < length counts → ((k : ℕ) → k < i → get_or counts k 0 ≡ 0) → 0 < get_or counts i 0 → position (λ count. nat_lt 0 count) counts ≡ Some i
first_counted counts i inside before here =
    let at = position_or_len_is (λ count. nat_lt 0 count) counts i 0 (omega (arith, inside)) (λ k less. le-ltb 0 (get_or counts k 0) (omega (arith, before k less))) (λ _. lt-ltb 0 (get_or counts i 0) here) in
    rw (at, lt-ltb i (length counts) inside) refl

pub never_counted : (counts : List ℕ) → ((k : ℕ) → k < length counts → get_or counts k 0 ≡ 0) → position (λ count. nat_lt 0 count) counts ≡ None
never_counted counts never =
    let at = position_or_len_is (λ count. nat_lt 0 count) counts (length counts) 0 (omega arith) (λ k less. le-ltb 0 (get_or counts k 0) (omega (arith, never k less))) (λ past. absurd (omega (arith, past))) in
    rw (at, le-ltb (length counts) (length counts) (omega arith)) refl

-- the least distance of a tally that counts some distances is the least of them
pub least-counted : (tally : Tally) (ds : List ℕ) → ((d : ℕ) → get_or tally.counts d 0 ≡ count_equal d ds) → least_counted tally ≡ least ds
least-counted tally ds counts = by (least_counted tally) (least ds) refl refl where
  by : (found wanted : Option ℕ) → least_counted tally ≡ found → least ds ≡ wanted → found ≡ wanted
  by None None none empty = refl
  by None (Some m) none is = absurd (omega (arith, none_counted tally.counts none m, (least_is ds m is).0, counts m))
  by (Some i) None some empty = absurd (omega (arith, (some_counted tally.counts i some).0, counts i, ap (count_equal i) (empty_if_none ds empty)))
  by (Some i) (Some m) some is =
      let at = some_counted tally.counts i some in
      let lowest = least_is ds m is in
      elim (cases_order i m) [
        | inl same ↦ ap Some same
        | inr (inl less) ↦ absurd (omega (arith, at.0, counts i, lowest.1 i less))
        | inr (inr more) ↦ absurd (omega (arith, at.1 m more, counts m, lowest.0))
      ]

pub least-of_tally : (tally : Option Tally) (ds : List ℕ) → ((d : ℕ) → count_at tally d ≡ count_equal d ds) → least_of tally ≡ least ds
least-of_tally None [] counts = refl
least-of_tally None (d ∷ ds) counts =
    let here = one_if_same d d refl in
    absurd (omega (arith, counts d, equal-cons d d ds, here))
least-of_tally (Some tally) ds counts = least-counted tally ds counts

-- a tally that counts none is as good as none
pub count-if_any : (tally : Tally) (d : ℕ) → count_at (if_any tally) d ≡ get_or tally.counts d 0
count-if_any tally d = by (least_counted tally) refl where
  by : (found : Option ℕ) → least_counted tally ≡ found → count_at (option_map (λ _. tally) found) d ≡ get_or tally.counts d 0
  by None none = sym (none_counted tally.counts none d)
  by (Some m) some = refl

pub least-if_any : (tally : Tally) → least_counted tally ≡ least_of (if_any tally)
least-if_any tally = by (least_counted tally) refl where
  by : (found : Option ℕ) → least_counted tally ≡ found → found ≡ least_of (option_map (λ _. tally) found)
  by None none = refl
  by (Some m) some = sym some

pub some-if_any : (tally kept : Tally) → if_any tally ≡ Some kept → IsSome (least_counted kept)
some-if_any tally kept is = by (least_counted tally) refl is where
  by : (found : Option ℕ) → least_counted tally ≡ found → option_map (λ _. tally) found ≡ Some kept → IsSome (least_counted kept)
  by None none same = cc
  by (Some m) some same =
      let this : tally ≡ kept = cc in
      ap (λ (t : Tally). is_some (least_counted t)) (sym this) ∙ ap is_some some

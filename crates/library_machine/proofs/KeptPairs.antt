-- Rows of pairs below a number: which of them pass a test.
use Rattle.std.proofs.Common.{◌≡◌, ℕ, Bool, true, false, cond, if◌then◌else◌, nat_lt, Option, Some, None, List, [], ◌∷◌, refl, ap, ◌∙◌}
use Rattle.std.specs.List.{cons_option, filter, filter_map, flat_map, range_with_len}
use Rattle.std.specs.Option.{option_map}
use Rattle.std.proofs.lemmas.List.Elements.{filter-append}
use Rattle.spare_tables.specs.Pairs.{pairs_below, value_below}

module _ {V : Type 0} (test : (ℕ × ℕ) × V → Bool) where
  -- the value of a pair, where its row passes the test
  abbrev pub kept : ℕ → ℕ → Option V → Option V
  kept j k None = None
  kept j k (Some v) = if test ((j, k), v) then Some v else None

  abbrev row_of : ℕ → ℕ → Option V → Option ((ℕ × ℕ) × V)
  row_of j k found = option_map (λ v. ((j, k), v)) found

  one_by : (j k : ℕ) (v : V) (passes : Bool) (rows : List ((ℕ × ℕ) × V)) →
      cond passes (((j, k), v) ∷ rows) rows ≡ cons_option (row_of j k (if passes then Some v else None)) rows
  one_by j k v true rows = refl
  one_by j k v false rows = refl

  one_kept : (j k : ℕ) (found : Option V) (rows : List ((ℕ × ℕ) × V)) →
      filter test (cons_option (row_of j k found) rows) ≡ cons_option (row_of j k (kept j k found)) (filter test rows)
  one_kept j k None rows = refl
  one_kept j k (Some v) rows = one_by j k v (test ((j, k), v)) (filter test rows)

  value_by : (value : ℕ → ℕ → Option V) (j k : ℕ) (lower : Bool) →
      kept j k (if lower then value j k else None) ≡ (if lower then kept j k (value j k) else None)
  value_by value j k true = refl
  value_by value j k false = refl

  -- the pairs of one first number
  first_kept : (value : ℕ → ℕ → Option V) (j : ℕ) (ks : List ℕ) →
      filter test (filter_map (λ k. row_of j k (value_below value j k)) ks)
      ≡ filter_map (λ k. row_of j k (value_below (λ f g. kept f g (value f g)) j k)) ks
  first_kept value j [] = refl
  first_kept value j (k ∷ ks) =
      one_kept j k (value_below value j k) _
      ∙ ap (cons_option (row_of j k (kept j k (value_below value j k)))) (first_kept value j ks)
      ∙ ap (λ (found : Option V). cons_option (row_of j k found) (filter_map (λ l. row_of j l (value_below (λ f g. kept f g (value f g)) j l)) ks)) (value_by value j k (nat_lt j k))

  all_kept : (value : ℕ → ℕ → Option V) (js ks : List ℕ) →
      filter test (flat_map (λ j. filter_map (λ k. row_of j k (value_below value j k)) ks) js)
      ≡ flat_map (λ j. filter_map (λ k. row_of j k (value_below (λ f g. kept f g (value f g)) j k)) ks) js
  all_kept value [] ks = refl
  all_kept value (j ∷ js) ks =
      filter-append test (filter_map (λ k. row_of j k (value_below value j k)) ks) _
      ∙ cc (first_kept value j ks, all_kept value js ks)

  -- those that pass are the pairs whose value is kept
  pub filter_below : (n : ℕ) (value : ℕ → ℕ → Option V) →
      filter test (pairs_below n value) ≡ pairs_below n (λ j k. kept j k (value j k))
  unfolding pairs_below
  filter_below n value = all_kept value (range_with_len 0 n) (range_with_len 0 n)

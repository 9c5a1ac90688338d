-- Rows with values set, one after another.
use Rattle.std.proofs.Common.{◌≡◌, ◌≢◌, ◌∙◌, ◌==◌, ℕ, Bool, true, false, cond, List, [], ◌∷◌, ◌++◌, Some, None, refl, sym, ap, inl, inr}
use Rattle.std.specs.BTreeMap.{insert_entry, is_at}
use Rattle.std.specs.Cmp.{IsTotalOrder, tied_itself}
use Rattle.std.specs.List.Sorted.{IsStrictlySortedBy}
use Rattle.std.specs.Map.{keys_of}
use Rattle.std.specs.Option.{unwrap_or}
use Rattle.std.specs.Ordering.{is_eq}
use Rattle.std.specs.declared.cmp.Ordering.{Ordering}
use Rattle.std.specs.declared.cmp.Ordering.TheVariants.{Equal}
use Rattle.std.proofs.lemmas.Bool.{and_parts, cases_Bool, eqb-true}
use Rattle.std.proofs.lemmas.Map.{lookup-none}
use Rattle.std.proofs.lemmas.Map.Entries.{lookup_head, lookup_tail, none_below_head}
use Rattle.std.proofs.lemmas.Map.Keys.{sorted_tail}
use Rattle.spare_tables.specs.EditLaws.{apart, same_or_not, sorted-insert_entry, sorted-without_row, value_put, value_put_other, value_taken, value_taken_other}
use Rattle.spare_tables.specs.Keys.{value_of, without_row}
use Rattle.display_cache.specs.Cache.{Support, nothing}
use Rattle.display_cache.specs.Drafting.{is_nothing, overlaid, with_value, with_values}

pub with_values-push : {K : Type 0} (R : K → K → Ordering) (changes : List (K × Support)) (change : K × Support) (rows : List (K × Support))
    → with_values R (changes ++ change ∷ []) rows ≡ with_value R (with_values R changes rows) change.0 change.1
with_values-push R [] change rows = refl
with_values-push R (first ∷ changes) change rows = with_values-push R changes change (with_value R rows first.0 first.1)

-- nothing is 0 of both
nothing-is : (u : Support) → is_nothing u ≡ true → nothing ≡ u
nothing-is u e =
    let parts = and_parts (u.current == 0) (u.pending == 0) e in
    let make : ℕ → ℕ → Support = λ m n. record { current = m; pending = n } in
    sym (ap (λ m. make m u.pending) (eqb-true u.current 0 parts.0) ∙ ap (make 0) (eqb-true u.pending 0 parts.1))

module _ {K : Type 0} {R : K → K → Ordering} (order : IsTotalOrder R) (exact : (x y : K) → R x y ≡ Equal → x ≡ y) where
  -- the value of a key, or nothing
  abbrev pub found : List (K × Support) → K → Support
  found rows key = unwrap_or (value_of R rows key) nothing

  sorted-with_value : (rows : List (K × Support)) (key : K) (u : Support) → IsStrictlySortedBy R (keys_of rows) → IsStrictlySortedBy R (keys_of (with_value R rows key u))
  sorted-with_value rows key u sorted = by (is_nothing u)
    where
      by : (b : Bool) → IsStrictlySortedBy R (keys_of (cond b (without_row R rows key) (insert_entry R rows key u)))
      by true = sorted-without_row order rows key sorted
      by false = sorted-insert_entry order rows key u sorted

  set-here : (rows : List (K × Support)) (key : K) (u : Support) → IsStrictlySortedBy R (keys_of rows) → found (with_value R rows key u) key ≡ u
  set-here rows key u sorted = elim (cases_Bool (is_nothing u)) [
    | inl none ↦ rw none (ap (λ o. unwrap_or o nothing) (value_taken order key rows sorted) ∙ nothing-is u none)
    | inr some ↦ rw some (ap (λ o. unwrap_or o nothing) (value_put order key u rows))
  ]

  set-other : (rows : List (K × Support)) (key : K) (u : Support) (q : K) → IsStrictlySortedBy R (keys_of rows) → q ≢ key → value_of R (with_value R rows key u) q ≡ value_of R rows q
  set-other rows key u q sorted other = elim (cases_Bool (is_nothing u)) [
    | inl none ↦ rw none (value_taken_other order exact q key rows sorted other)
    | inr some ↦ rw some (value_put_other order exact q key u rows other)
  ]

  -- the first key has no value among the later rows
  none_later : (row : K × Support) (rows : List (K × Support)) → IsStrictlySortedBy R (keys_of (row ∷ rows)) → value_of R rows row.0 ≡ None
  unfolding IsStrictlySortedBy
  none_later row [] sorted = refl
  none_later row (next ∷ rows) sorted = lookup-none (is_at (R row.0)) (next ∷ rows) (none_below_head order row.0 next rows sorted.1 sorted.0.0)

  pub found-with_values : (changes rows : List (K × Support)) → IsStrictlySortedBy R (keys_of changes) → IsStrictlySortedBy R (keys_of rows) → (q : K)
      → found (with_values R changes rows) q ≡ overlaid (value_of R changes q) (value_of R rows q)
  found-with_values [] rows changing sorted q = refl
  found-with_values (change ∷ changes) rows changing sorted q =
      let next : List (K × Support) = with_value R rows change.0 change.1 in
      let rest = found-with_values changes next (sorted_tail R change.0 (keys_of changes) changing) (sorted-with_value rows change.0 change.1 sorted) q in
      elim (same_or_not order exact q change.0) [
        | inl same ↦
            let none : value_of R changes q ≡ None = ap (value_of R changes) same ∙ none_later change changes changing in
            let first : value_of R (change ∷ changes) q ≡ Some change.1 =
            lookup_head (is_at (R q)) change changes (ap (is_at (R q)) (sym same) ∙ ap is_eq (tied_itself order q)) in
            rest ∙ ap (λ o. overlaid o (value_of R next q)) none ∙ ap (found next) same ∙ set-here rows change.0 change.1 sorted
            ∙ sym (ap (λ o. overlaid o (value_of R rows q)) first)
        | inr other ↦
            let first : value_of R (change ∷ changes) q ≡ value_of R changes q = lookup_tail (is_at (R q)) change changes (apart order exact q change.0 other) in
            rest ∙ ap (overlaid (value_of R changes q)) (set-other rows change.0 change.1 q sorted other)
            ∙ sym (ap (λ o. overlaid o (value_of R rows q)) first)
      ]

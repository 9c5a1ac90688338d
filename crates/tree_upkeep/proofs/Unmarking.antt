-- Marks that are taken away one by one.
use Rattle.std.proofs.Common.{◌≡◌, ◌∙◌, ℕ, suc, ◌+◌, ◌<◌, ◌≤◌, ◌==◌, ◌&&◌, ◌||◌, Bool, true, false, not, List, [], ◌∷◌, length, take, get_or, refl, sym, ap, inl, inr, arith}
use Rattle.std.specs.List.{All, filter}
use Rattle.std.specs.List.Sorted.{IsStrictlySortedBy}
use Rattle.std.specs.Ordering.{is_eq, nat_cmp}
use Rattle.std.specs.declared.cmp.Ordering.TheVariants.{Less}
use Rattle.std.proofs.lemmas.Bool.{cases_order, lt-ltb, le-ltb, ne_eqb, eq-eqb}
use Rattle.std.proofs.lemmas.List.{take_all}
use Rattle.std.proofs.lemmas.List.Elements.{All-from_recursion, filter_agree}
use Rattle.std.proofs.lemmas.List.Folds.{list_any_more}
use Rattle.media_types.specs.declared.numbers.HashNo.{HashNo}
use Rattle.spare_tables.specs.Keys.{without}
use Rattle.spare_tables.specs.PairLaws.{number_says}
use Rattle.vp_tree.specs.declared.node.NodeView.{NodeView}
use Rattle.vp_tree.specs.Building.{is_built}

-- ---- one mark
equal_is : (n m : ℕ) → is_eq (nat_cmp n m) ≡ (n == m)
equal_is n m = elim (cases_order n m) [
  | inl same ↦ rw (le-ltb n m (omega (arith, same)), eq-eqb n m same) refl
  | inr (inl less) ↦ rw (lt-ltb n m less, ne_eqb n m (omega arith)) refl
  | inr (inr greater) ↦ rw (le-ltb n m (omega arith), ne_eqb n m (omega arith)) refl
]

all_kept : (p : ℕ → Bool) (xs : List ℕ) → All (λ x. p x ≡ true) xs → filter p xs ≡ xs
all_kept p [] pass = refl
all_kept p (x ∷ xs) pass = rw (pass 0 x (omega arith)) (ap (λ (rest : List ℕ). x ∷ rest) (all_kept p xs (λ k d within. pass (suc k) d (omega arith))))

without_one : (n : ℕ) (xs : List ℕ) → IsStrictlySortedBy nat_cmp xs → without nat_cmp xs n ≡ filter (λ m. not (n == m)) xs
unfolding IsStrictlySortedBy
without_one n [] sorted = refl
without_one n (x ∷ xs) sorted =
    elim (cases_order n x) [
      | inl same ↦
          let later : All (λ y. nat_cmp x y ≡ Less) xs = All-from_recursion (λ y. nat_cmp x y ≡ Less) xs sorted.0 in
          let others : All (λ y. not (n == y) ≡ true) xs =
          λ k d within. let less : x < get_or xs k d = number_says x (get_or xs k d) Less (later k d within) in
          ap not (ne_eqb n (get_or xs k d) (omega (arith, less, same))) in
          rw (equal_is n x, eq-eqb n x same) (sym (all_kept (λ m. not (n == m)) xs others))
      | inr (inl less) ↦ rw (equal_is n x, ne_eqb n x (omega arith)) (ap (λ (rest : List ℕ). x ∷ rest) (without_one n xs sorted.1))
      | inr (inr greater) ↦ rw (equal_is n x, ne_eqb n x (omega arith)) (ap (λ (rest : List ℕ). x ∷ rest) (without_one n xs sorted.1))
    ]

-- ---- several
twice_at : (p q : ℕ → Bool) (x : ℕ) (xs : List ℕ) (a b : Bool) → p x ≡ a → q x ≡ b → filter q (filter p xs) ≡ filter (λ x. p x && q x) xs
    → filter q (filter p (x ∷ xs)) ≡ filter (λ x. p x && q x) (x ∷ xs)
twice_at p q x xs true true pa qb rest = rw (pa, qb) (ap (λ (list : List ℕ). x ∷ list) rest)
twice_at p q x xs true false pa qb rest = rw (pa, qb) rest
twice_at p q x xs false b pa qb rest = rw pa rest

filter_twice : (p q : ℕ → Bool) (xs : List ℕ) → filter q (filter p xs) ≡ filter (λ x. p x && q x) xs
filter_twice p q [] = refl
filter_twice p q (x ∷ xs) = twice_at p q x xs (p x) (q x) refl refl (filter_twice p q xs)

neither : (a b : Bool) → (not a && not b) ≡ not (a || b)
neither true b = refl
neither false b = refl

pub unmarked-first : (nodes : List (HashNo × NodeView)) (marks : List ℕ) → marks ≡ filter (λ m. not (is_built (take 0 nodes) m)) marks
unmarked-first nodes marks = sym (all_kept (λ m. true) marks (λ k d within. refl))

pub unmarked-more : (nodes : List (HashNo × NodeView)) (i : ℕ) (d : HashNo × NodeView) (marks now : List ℕ) → i < length nodes
    → now ≡ filter (λ m. not (is_built (take i nodes) m)) marks → IsStrictlySortedBy nat_cmp now
    → without nat_cmp now (get_or nodes i d).0.0 ≡ filter (λ m. not (is_built (take (i + 1) nodes) m)) marks
unmarked-more nodes i d marks now within is sorted =
    let n : ℕ = (get_or nodes i d).0.0 in
    without_one n now sorted
    ∙ ap (filter (λ m. not (n == m))) is
    ∙ filter_twice (λ m. not (is_built (take i nodes) m)) (λ m. not (n == m)) marks
    ∙ filter_agree (λ m. not (is_built (take i nodes) m) && not (n == m)) (λ m. not (is_built (take (i + 1) nodes) m))
    (λ m. neither (is_built (take i nodes) m) (n == m) ∙ ap not (sym (list_any_more (λ (b : HashNo × NodeView). b.0.0 == m) nodes i d within))) marks

pub unmarked-all : (nodes : List (HashNo × NodeView)) (i : ℕ) (marks : List ℕ) → length nodes ≤ i
    → filter (λ m. not (is_built (take i nodes) m)) marks ≡ filter (λ m. not (is_built nodes m)) marks
unmarked-all nodes i marks all = ap (λ (list : List (HashNo × NodeView)). filter (λ m. not (is_built list m)) marks) (take_all i nodes all)

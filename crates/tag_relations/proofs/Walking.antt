-- The services are looked at one after the other.
use Rattle.std.proofs.Common.{◌≡◌, ◌∙◌, ◌<◌, ◌≤◌, ◌+◌, ◌*◌, ◌-◌, ℕ, zero, suc, Some, None, Option, List, [], ◌∷◌, ◌++◌, filter, nat_lt, ◌&&◌, true, inl, inr, refl, sym, ap, subst, add-one, arith}
use Rattle.std.proofs.Math.Nat.{mul-le-mul}
use Rattle.std.specs.Option.{option_or}
use Rattle.std.specs.List.{range_with_len}
use Rattle.parent_closure.specs.Limits.{first_some}
use Rattle.parent_closure.specs.Ancestors.{Relations}
use Rattle.parent_closure.specs.CountLaws.{AreDifferent, picked-different}
use Rattle.parent_closure.specs.LimitLaws.{AreBelow, below, below-closed}
use Rattle.parent_closure.specs.Reached.{has}
use Rattle.parent_closure.specs.Sets.{IsClosedFor}
use Rattle.sibling_chains.specs.NumberLaws.{any-passed, range-more}
use Rattle.std.proofs.lemmas.Bool.{cases_lt, le-ltb, lt-ltb}
use Rattle.tag_relations.specs.PlanLaws.{has-turned}

first-append : {A B : Type 0} (f : A → Option B) (xs ys : List A) → first_some f (xs ++ ys) ≡ option_or (first_some f xs) (first_some f ys)
first-append f [] ys = refl
first-append {A} {B} f (x ∷ xs) ys = ap (option_or (f x)) (first-append f xs ys) ∙ or-assoc (f x) (first_some f xs) (first_some f ys)
  where
    or-assoc : (a b c : Option B) → option_or a (option_or b c) ≡ option_or (option_or a b) c
    or-assoc None b c = refl
    or-assoc (Some a) b c = refl

-- none of the first n has something, nor has n
pub none-more : {B : Type 0} (f : ℕ → Option B) (n : ℕ) → first_some f (range_with_len 0 n) ≡ None → f n ≡ None → first_some f (range_with_len 0 (n + 1)) ≡ None
none-more f n none here =
    ap (λ (k : ℕ). first_some f (range_with_len 0 k)) (add-one n) ∙ ap (first_some f) (range-more 0 n ∙ ap (λ (k : ℕ). range_with_len 0 n ++ k ∷ []) (omega arith))
    ∙ first-append f (range_with_len 0 n) (n ∷ []) ∙ rw (none, here) refl

-- none of the first n has something, and n has
pub first-found : {B : Type 0} (f : ℕ → Option B) (n m : ℕ) (b : B) → n < m → first_some f (range_with_len 0 n) ≡ None → f n ≡ Some b → first_some f (range_with_len 0 m) ≡ Some b
first-found {B} f n m b lt none here = later (m - suc n) m (omega (arith, lt))
  where
    up-to : first_some f (range_with_len 0 (suc n)) ≡ Some b
    up-to =
        ap (first_some f) (range-more 0 n ∙ ap (λ (k : ℕ). range_with_len 0 n ++ k ∷ []) (omega arith))
        ∙ first-append f (range_with_len 0 n) (n ∷ []) ∙ rw (none, here) refl

    later : (k m : ℕ) → m ≡ suc n + k → first_some f (range_with_len 0 m) ≡ Some b
    later zero m is = let same : m ≡ suc n = omega (arith, is) in ap (λ (k : ℕ). first_some f (range_with_len 0 k)) same ∙ up-to
    later (suc k) m is =
        let same : m ≡ suc (suc n + k) = omega (arith, is) in
        ap (λ (k : ℕ). first_some f (range_with_len 0 k)) same ∙ ap (first_some f) (range-more 0 (suc n + k))
        ∙ first-append f (range_with_len 0 (suc n + k)) ((0 + (suc n + k)) ∷ []) ∙ ap (λ (x : Option B). option_or x (first_some f ((0 + (suc n + k)) ∷ []))) (later k (suc n + k) refl)

-- one service more is read
pub one-more-read : (i n each before now later : ℕ) → i < n → now ≤ before + i * each → later ≤ now + each → later ≤ before + (i + 1) * each
one-more-read i n each before now later lt so_far more =
    let step : (i + 1) * each ≡ i * each + each = omega arith in
    omega (arith, so_far, more, step)

pub reads-within : (i n each before now : ℕ) → i ≤ n → now ≤ before + i * each → now ≤ before + n * each
reads-within i n each before now le reads =
    let less = mul-le-mul {n₁ = i} {m₁ = each} {n₂ = n} {m₂ = each} le (omega arith) in
    omega (arith, reads, less)

-- ---- all numbers below an end

all-kept : (xs : List ℕ) → filter (λ t. true) xs ≡ xs
all-kept [] = refl
all-kept (x ∷ xs) = ap (λ l. x ∷ l) (all-kept xs)

pub range-different : (n : ℕ) → AreDifferent (range_with_len 0 n)
range-different n = subst AreDifferent (all-kept (range_with_len 0 n)) (picked-different (λ t. true) n)

has-range : (n t : ℕ) → has (range_with_len 0 n) t ≡ below n t
has-range n t =
    elim (cases_lt t n) [
      | inl lt ↦ at-all ∙ within lt
      | inr past ↦ at-all ∙ beyond past
    ]
  where
    at-all : has (range_with_len 0 n) t ≡ (nat_lt t n && true)
    at-all = ap (λ l. has l t) (sym (all-kept (range_with_len 0 n))) ∙ has-turned (filter (λ t. true) (range_with_len 0 n)) t ∙ any-passed (λ t. true) n t

    within : t < n → (nat_lt t n && true) ≡ nat_lt t n
    within lt = rw (lt-ltb t n lt) refl

    beyond : n ≤ t → (nat_lt t n && true) ≡ nat_lt t n
    beyond past = rw (le-ltb t n past) refl

-- they are a closed set, where all rows are of them
pub range-closed : (n : ℕ) (R : Relations) → AreBelow n R.siblings → AreBelow n R.parents → IsClosedFor (has (range_with_len 0 n)) R
range-closed n R siblings parents = (
  λ k d lt. has-range n _ ∙ below-closed n R.siblings siblings k d lt ∙ sym (has-range n _),
  λ k d lt. has-range n _ ∙ below-closed n R.parents parents k d lt ∙ sym (has-range n _),
)

-- Tags picked from all tags in their order.
use Rattle.std.proofs.Common.{◌≡◌, ◌+◌, ◌<◌, ◌≤◌, ◌==◌, ℕ, zero, suc, Bool, true, false, cond, List, [], ◌∷◌, filter, refl, arith, All}
use Rattle.std.specs.List.{AllByRecursion, range_with_len}
use Rattle.std.proofs.lemmas.Bool.{ne_eqb}
use Rattle.std.proofs.lemmas.List.Elements.{All-from_recursion}
use Rattle.display_cache.specs.Shown.{has}
use Rattle.display_cache.specs.Changing.{AreDistinct}

-- each number is within two bounds
abbrev Between : ℕ → ℕ → List ℕ → Type 0
Between a b list = AllByRecursion (λ x. (a ≤ x) × (x < b)) list

lower : (a c b : ℕ) (list : List ℕ) → a ≤ c → Between c b list → Between a b list
lower a c b [] le h = tt
lower a c b (x ∷ list) le h = ((omega (arith, h.0.0, le), h.0.1), lower a c b list le h.1)

picked-between : (test : ℕ → Bool) (a n b : ℕ) → a + n ≡ b → Between a b (filter test (range_with_len a n))
picked-between test a zero b e = tt
picked-between test a (suc n) b e = by (test a) (lower a (a + 1) b (filter test (range_with_len (a + 1) n)) (omega arith) (picked-between test (a + 1) n b (omega (arith, e))))
  where
    by : (t : Bool) → Between a b (filter test (range_with_len (a + 1) n)) → Between a b (cond t (a ∷ filter test (range_with_len (a + 1) n)) (filter test (range_with_len (a + 1) n)))
    by true h = ((omega arith, omega (arith, e)), h)
    by false h = h

has-none : (a b : ℕ) (list : List ℕ) → Between (a + 1) b list → has list a ≡ false
has-none a b [] h = refl
has-none a b (x ∷ list) h =
    let apart : (a == x) ≡ false = ne_eqb a x (λ e. omega (arith, e, h.0.0)) in
    rw apart (has-none a b list h.1)

picked-distinct : (test : ℕ → Bool) (a n : ℕ) → AreDistinct (filter test (range_with_len a n))
picked-distinct test a zero = tt
picked-distinct test a (suc n) = by (test a) (picked-distinct test (a + 1) n)
  where
    by : (t : Bool) → AreDistinct (filter test (range_with_len (a + 1) n)) → AreDistinct (cond t (a ∷ filter test (range_with_len (a + 1) n)) (filter test (range_with_len (a + 1) n)))
    by true h = (has-none a (a + 1 + n) (filter test (range_with_len (a + 1) n)) (picked-between test (a + 1) n (a + 1 + n) refl), h)
    by false h = h

upper : (a b : ℕ) (list : List ℕ) → Between a b list → AllByRecursion (λ x. x < b) list
upper a b [] h = tt
upper a b (x ∷ list) h = (h.0.1, upper a b list h.1)

pub picked : (test : ℕ → Bool) (n : ℕ) → AreDistinct (filter test (range_with_len 0 n)) × All (λ x. x < n) (filter test (range_with_len 0 n))
picked test n = (
  picked-distinct test 0 n,
  All-from_recursion (λ x. x < n) (filter test (range_with_len 0 n)) (upper 0 n (filter test (range_with_len 0 n)) (picked-between test 0 n n (omega arith))),
)

-- How many rows the tags of a cluster have.
use Rattle.std.proofs.Common.{◌≡◌, ◌∙◌, ℕ, zero, suc, ◌+◌, ◌<◌, ◌≤◌, ◌==◌, ◌&&◌, ◌||◌, Bool, true, false, cond, List, [], ◌∷◌, length, length-append, filter, map, refl, sym, ap, inl, inr, arith}
use Rattle.std.specs.List.{flat_map, list_any, range_with_len}
use Rattle.std.proofs.lemmas.Bool.{false≢true, eqb-true, eq-eqb, ne_eqb, and_parts, or_cases, or_left, or_right}
use Rattle.std.proofs.lemmas.List.{length-map}
use Rattle.sibling_chains.specs.Following.{Pair}
use Rattle.sibling_chains.specs.Clusters.{rows_within}
use Rattle.sibling_chains.specs.declared.relation_row.RelationRow.{RelationRow}
use Rattle.sibling_chains.specs.RowLaws.{length-removed}
use Rattle.parent_closure.specs.declared.parent_plan.Change.{Change}
use Rattle.parent_closure.specs.declared.parent_plan.Change.TheVariants.{Add, Remove, Order}
use Rattle.parent_closure.specs.declared.parent_plan.ParentPlan.{ParentPlan}
use Rattle.parent_closure.specs.Ancestors.{is_above, leads}
use Rattle.parent_closure.specs.Kept.{Kept, rows_of}
use Rattle.parent_closure.specs.Planning.{after, changed}
use Rattle.parent_closure.specs.Reached.{has}

-- no tag stands twice
abbrev pub AreDifferent : List ℕ → Type 0
AreDifferent [] = Unit {0}
AreDifferent (t ∷ tags) = (has tags t ≡ false) × AreDifferent tags

-- what passes either of two tests of which none passes both
either-count : {X : Type 0} (f g : X → Bool) → ((x : X) → f x ≡ true → g x ≡ false) → (xs : List X) →
    length (filter f xs) + length (filter g xs) ≡ length (filter (λ x. f x || g x) xs)
either-count f g apart [] = refl
either-count f g apart (x ∷ xs) = by (f x) (g x) (apart x) (either-count f g apart xs) where
  by : (a b : Bool) → (a ≡ true → b ≡ false) → length (filter f xs) + length (filter g xs) ≡ length (filter (λ x. f x || g x) xs)
      → length (cond a (x ∷ filter f xs) (filter f xs)) + length (cond b (x ∷ filter g xs) (filter g xs)) ≡ length (cond (a || b) (x ∷ filter (λ x. f x || g x) xs) (filter (λ x. f x || g x) xs))
  by true true off rest = let no_way : true ≡ false = off refl in absurd (cc no_way)
  by true false off rest = omega (arith, rest)
  by false true off rest = omega (arith, rest)
  by false false off rest = rest

no-row : (rows : List RelationRow) → length (rows_within (has []) rows) ≡ 0
no-row [] = refl
no-row (row ∷ rows) = no-row rows

-- the rows of different tags, one tag after the other, are as many as those within the tags
pub cluster-rows : (rows : List RelationRow) (tags : List ℕ) → AreDifferent tags → length (flat_map (rows_of rows) tags) ≡ length (rows_within (has tags) rows)
cluster-rows rows [] all = sym (no-row rows)
cluster-rows rows (t ∷ tags) all =
    let apart : (row : RelationRow) → (row.first.0 == t) ≡ true → has tags row.first.0 ≡ false = λ row is. ap (has tags) (eqb-true row.first.0 t is) ∙ all.0 in
    let both = either-count (λ (row : RelationRow). row.first.0 == t) (λ row. has tags row.first.0) apart rows in
    let rest = cluster-rows rows tags all.1 in
    omega (arith, both, rest, length-append (rows_of rows t) (flat_map (rows_of rows) tags))

-- ---- picked numbers are different

none-below : (test : ℕ → Bool) (n from t : ℕ) → t < from → has (filter test (range_with_len from n)) t ≡ false
none-below test zero from t lt = refl
none-below test (suc n) from t lt = by (test from) (none-below test n (from + 1) t (omega (arith, lt))) where
  by : (b : Bool) → has (filter test (range_with_len (from + 1) n)) t ≡ false → has (cond b (from ∷ filter test (range_with_len (from + 1) n)) (filter test (range_with_len (from + 1) n))) t ≡ false
  by true rest = let other : (t == from) ≡ false = ne_eqb t from (λ same. omega (arith, same, lt)) in rw other rest
  by false rest = rest

picked-from : (test : ℕ → Bool) (n from : ℕ) → AreDifferent (filter test (range_with_len from n))
picked-from test zero from = tt
picked-from test (suc n) from = by (test from) (picked-from test n (from + 1)) where
  by : (b : Bool) → AreDifferent (filter test (range_with_len (from + 1) n)) → AreDifferent (cond b (from ∷ filter test (range_with_len (from + 1) n)) (filter test (range_with_len (from + 1) n)))
  by true rest = (none-below test n (from + 1) from (omega arith), rest)
  by false rest = rest

-- numbers below n that pass a test
pub picked-different : (test : ℕ → Bool) (n : ℕ) → AreDifferent (filter test (range_with_len 0 n))
picked-different test n = picked-from test n 0

-- ---- plans

-- a plan records one row at the most
pub one-more : (plan : ParentPlan) (v : Kept) → length (after plan v).rows ≤ length v.rows + 1
unfolding after
one-more plan v = by plan.change where
  by : (change : Change) → length (changed change v).rows ≤ length v.rows + 1
  by (Add row) = omega (arith, length-append v.rows (row ∷ []))
  by (Remove it) = omega (arith, length-removed it.number v.rows)
  by (Order it) = omega arith

-- ---- how many tags a tag implies

weaker-count : (f g : ℕ → Bool) → ((b : ℕ) → f b ≡ true → g b ≡ true) → (xs : List ℕ) → length (filter f xs) ≤ length (filter g xs)
weaker-count f g h [] = omega arith
weaker-count f g h (x ∷ xs) = by (f x) (g x) (h x) (weaker-count f g h xs) where
  by : (a b : Bool) → (a ≡ true → b ≡ true) → length (filter f xs) ≤ length (filter g xs) → length (cond a (x ∷ filter f xs) (filter f xs)) ≤ length (cond b (x ∷ filter g xs) (filter g xs))
  by true true t rest = omega (arith, rest)
  by true false t rest = absurd (cc (t refl))
  by false true t rest = omega (arith, rest)
  by false false t rest = rest

or-count : (f g : ℕ → Bool) (xs : List ℕ) → length (filter (λ x. f x || g x) xs) ≤ length (filter f xs) + length (filter g xs)
or-count f g [] = omega arith
or-count f g (x ∷ xs) = by (f x) (g x) (or-count f g xs) where
  by : (a b : Bool) → length (filter (λ x. f x || g x) xs) ≤ length (filter f xs) + length (filter g xs)
      → length (cond (a || b) (x ∷ filter (λ x. f x || g x) xs) (filter (λ x. f x || g x) xs)) ≤ length (cond a (x ∷ filter f xs) (filter f xs)) + length (cond b (x ∷ filter g xs) (filter g xs))
  by true true rest = omega (arith, rest)
  by true false rest = omega (arith, rest)
  by false true rest = omega (arith, rest)
  by false false rest = rest

none-past : (x n from : ℕ) → x < from → length (filter (λ b. b == x) (range_with_len from n)) ≤ 0
none-past x zero from lt = omega arith
none-past x (suc n) from lt =
    let other : (from == x) ≡ false = ne_eqb from x (λ same. omega (arith, same, lt)) in
    rw other (none-past x n (from + 1) (omega (arith, lt)))

one-in-range : (x n from : ℕ) → length (filter (λ b. b == x) (range_with_len from n)) ≤ 1
one-in-range x zero from = omega arith
one-in-range x (suc n) from = by (from == x) refl (one-in-range x n (from + 1)) where
  by : (b : Bool) → (from == x) ≡ b → length (filter (λ b. b == x) (range_with_len (from + 1) n)) ≤ 1
      → length (cond b (from ∷ filter (λ b. b == x) (range_with_len (from + 1) n)) (filter (λ b. b == x) (range_with_len (from + 1) n))) ≤ 1
  by true is rest =
      let same : from ≡ x = eqb-true from x is in
      let none = none-past x n (from + 1) (omega (arith, same)) in
      omega (arith, none)
  by false is rest = rest

-- no more numbers are in a list than it has
listed-count : (list : List ℕ) (n : ℕ) → length (filter (has list) (range_with_len 0 n)) ≤ length list
listed-count [] n = none (range_with_len 0 n) where
  none : (xs : List ℕ) → length (filter (has []) xs) ≤ 0
  none [] = omega arith
  none (x ∷ xs) = none xs
listed-count (x ∷ list) n =
    let both = or-count (λ b. b == x) (has list) (range_with_len 0 n) in
    let one = one-in-range x n 0 in
    let rest = listed-count list n in
    omega (arith, both, one, rest)

-- what a chain comes to is the parent of some pair
parent-there : (test : Pair → Bool) (b : ℕ) (pairs : List Pair) → list_any (λ p. test p && p.1 == b) pairs ≡ true → has (map (λ p. p.1) pairs) b ≡ true
parent-there test b [] e = e
parent-there test b (p ∷ pairs) e = elim (or_cases (test p && p.1 == b) (list_any (λ q. test q && q.1 == b) pairs) e) [
  | inl here ↦
      let parts = and_parts (test p) (p.1 == b) here in
      let same : p.1 ≡ b = eqb-true p.1 b parts.1 in
      or_left (b == p.1) (has (map (λ q. q.1) pairs) b) (eq-eqb b p.1 (sym same))
  | inr there ↦ or_right (b == p.1) (has (map (λ q. q.1) pairs) b) (parent-there test b pairs there)
]

led-to : (pairs : List Pair) (a n b : ℕ) → leads n pairs a b ≡ true → has (map (λ p. p.1) pairs) b ≡ true
led-to pairs a zero b e = absurd (false≢true e)
led-to pairs a (suc n) b e = parent-there (λ p. p.0 == a || leads n pairs a p.0) b pairs e

-- no tag implies more tags than there are pairs, and itself
pub few-implied : (pairs : List Pair) (ideal n : ℕ) → length (filter (λ b. b == ideal || is_above pairs ideal b) (range_with_len 0 n)) ≤ 1 + length pairs
few-implied pairs ideal n =
    let parents : List ℕ = map (λ p. p.1) pairs in
    let test = λ (b : ℕ). b == ideal || is_above pairs ideal b in
    let part = weaker-count test (has (ideal ∷ parents)) (λ b e. elim (or_cases (b == ideal) (is_above pairs ideal b) e) [
      | inl here ↦ or_left (b == ideal) (has parents b) here
      | inr there ↦ or_right (b == ideal) (has parents b) (led-to pairs ideal (length pairs) b there)
    ]) (range_with_len 0 n) in
    let all = listed-count (ideal ∷ parents) n in
    omega (arith, part, all, length-map pairs (λ (p : Pair). p.1))

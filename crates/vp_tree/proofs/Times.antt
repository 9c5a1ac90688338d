-- How often a branch has a node, and what follows for sums over branches.
use Rattle.std.proofs.Common.{◌≡◌, ◌≢◌, ◌∙◌, ℕ, zero, suc, ◌+◌, ◌*◌, ◌<◌, ◌≤◌, ◌⊎◌, nat_lt, Bool, cond, List, [], ◌∷◌, length, filter, sum_by, Option, Some, None, refl, sym, ap, inl, inr, arith}
use Rattle.std.specs.List.{range_with_len}
use Rattle.std.proofs.lemmas.Bool.Decides.{eqb_tells}
use Rattle.std.proofs.lemmas.List.Sums.{sum_by-cons}
use Rattle.media_types.specs.declared.numbers.HashNo.{HashNo}
use Rattle.vp_tree.specs.declared.node.NodeView.{NodeView}
use Rattle.vp_tree.specs.Nodes.{node_at, at_part, total_in, total, one_at, times}
use Rattle.vp_tree.specs.Shape.{Side, inward, outward, part, ComeLater, IsTree}
use Rattle.vp_tree.proofs.Branches.{at_part-same, at_part-none, total-step, none_if}
use Rattle.vp_tree.proofs.Sorting.{one_at-other, one_at-same}

-- a sum over a branch of what is 0 from some number on
pub total_in-none : (f : ℕ) (ns : List NodeView) (g : ℕ → ℕ) (a k : ℕ) → ComeLater ns → ((i : ℕ) → a ≤ i → i < length ns → g i ≡ 0)
    → a ≤ k → k < length ns → total_in f ns g k ≡ 0
total_in-none zero ns g a k L h le lt = refl
total_in-none (suc f) ns g a k L h le lt =
    omega (
      arith,
      h k le lt,
      at_part-none (node_at ns k).inner (total_in f ns g) (λ c e. total_in-none f ns g a c.0 L h (omega (arith, le, (L k inward c lt e).0)) (L k inward c lt e).1),
      at_part-none (node_at ns k).outer (total_in f ns g) (λ c e. total_in-none f ns g a c.0 L h (omega (arith, le, (L k outward c lt e).0)) (L k outward c lt e).1),
    )

-- a branch has no earlier node
pub times-before : (ns : List NodeView) (k j : ℕ) → ComeLater ns → k < length ns → j < k → times ns k j ≡ 0
times-before ns k j L lt before =
    total_in-none (length ns) ns (one_at j) k k L (λ i le _. one_at-other j i (omega (arith, le, before))) (omega arith) lt

total_in-equal : (f : ℕ) (ns : List NodeView) (g h : ℕ → ℕ) (k : ℕ) → ComeLater ns → ((i : ℕ) → i < length ns → g i ≡ h i)
    → k < length ns → total_in f ns g k ≡ total_in f ns h k
total_in-equal zero ns g h k L e lt = refl
total_in-equal (suc f) ns g h k L e lt =
    omega (
      arith,
      e k lt,
      at_part-same (node_at ns k).inner (total_in f ns g) (total_in f ns h) (λ c at. total_in-equal f ns g h c.0 L e (L k inward c lt at).1),
      at_part-same (node_at ns k).outer (total_in f ns g) (total_in f ns h) (λ c at. total_in-equal f ns g h c.0 L e (L k outward c lt at).1),
    )

pub at_part-add : (o : Option HashNo) (H F G : ℕ → ℕ) → ((c : HashNo) → o ≡ Some c → H c.0 ≡ F c.0 + G c.0) → at_part o H ≡ at_part o F + at_part o G
at_part-add None H F G e = refl
at_part-add (Some c) H F G e = e c refl

total_in-add : (f : ℕ) (ns : List NodeView) (g h : ℕ → ℕ) (k : ℕ) → total_in f ns (λ i. g i + h i) k ≡ total_in f ns g k + total_in f ns h k
total_in-add zero ns g h k = refl
total_in-add (suc f) ns g h k =
    omega (
      arith,
      at_part-add (node_at ns k).inner (total_in f ns (λ i. g i + h i)) (total_in f ns g) (total_in f ns h) (λ c _. total_in-add f ns g h c.0),
      at_part-add (node_at ns k).outer (total_in f ns (λ i. g i + h i)) (total_in f ns g) (total_in f ns h) (λ c _. total_in-add f ns g h c.0),
    )

pub total-add : (ns : List NodeView) (g h : ℕ → ℕ) (k : ℕ) → total ns (λ i. g i + h i) k ≡ total ns g k + total ns h k
total-add ns g h k = total_in-add (length ns) ns g h k

at_part-scale : (o : Option HashNo) (H F : ℕ → ℕ) (m : ℕ) → ((c : HashNo) → H c.0 ≡ F c.0 * m) → at_part o H ≡ at_part o F * m
at_part-scale None H F m e = omega arith
at_part-scale (Some c) H F m e = e c

total_in-scale : (f : ℕ) (ns : List NodeView) (g : ℕ → ℕ) (m k : ℕ) → total_in f ns (λ i. g i * m) k ≡ total_in f ns g k * m
total_in-scale zero ns g m k = omega arith
total_in-scale (suc f) ns g m k =
    omega (
      arith,
      at_part-scale (node_at ns k).inner (total_in f ns (λ i. g i * m)) (total_in f ns g) m (λ c. total_in-scale f ns g m c.0),
      at_part-scale (node_at ns k).outer (total_in f ns (λ i. g i * m)) (total_in f ns g) m (λ c. total_in-scale f ns g m c.0),
    )

at_part-le : (o : Option HashNo) (F G : ℕ → ℕ) → ((c : HashNo) → F c.0 ≤ G c.0) → at_part o F ≤ at_part o G
at_part-le None F G h = omega arith
at_part-le (Some c) F G h = h c

total_in-le : (f : ℕ) (ns : List NodeView) (g h : ℕ → ℕ) (k : ℕ) → ((i : ℕ) → g i ≤ h i) → total_in f ns g k ≤ total_in f ns h k
total_in-le zero ns g h k le = omega arith
total_in-le (suc f) ns g h k le =
    omega (
      arith,
      le k,
      at_part-le (node_at ns k).inner (total_in f ns g) (total_in f ns h) (λ c. total_in-le f ns g h c.0 le),
      at_part-le (node_at ns k).outer (total_in f ns g) (total_in f ns h) (λ c. total_in-le f ns g h c.0 le),
    )

pub total-le : (ns : List NodeView) (g h : ℕ → ℕ) (k : ℕ) → ((i : ℕ) → g i ≤ h i) → total ns g k ≤ total ns h k
total-le ns g h k le = total_in-le (length ns) ns g h k le

-- a part has no more than the branch of its node
pub child-le : (ns : List NodeView) (g : ℕ → ℕ) (k : ℕ) (s : Side) (c : HashNo) → ComeLater ns → k < length ns → part s (node_at ns k) ≡ Some c
    → total ns g c.0 ≤ total ns g k
child-le ns g k inward c L lt e = omega (arith, total-step ns g k L lt, ap (λ o. at_part o (total ns g)) e)
child-le ns g k outward c L lt e = omega (arith, total-step ns g k L lt, ap (λ o. at_part o (total ns g)) e)

-- a branch has its own node
pub times-self : (ns : List NodeView) (k : ℕ) → ComeLater ns → k < length ns → 1 ≤ times ns k k
times-self ns k L lt = omega (arith, total-step ns (one_at k) k L lt, one_at-same k)

counted-part : (o : Option HashNo) (F : ℕ → ℕ) → 1 ≤ at_part o F → (c : HashNo) × (o ≡ Some c) × (1 ≤ F c.0)
counted-part None F h = absurd (omega (arith, h))
counted-part (Some c) F h = (c, refl, h)

pub one-of : (m n : ℕ) → 1 ≤ m + n → (1 ≤ m) ⊎ (1 ≤ n)
one-of zero n h = inr (omega (arith, h))
one-of (suc m) n h = inl (omega arith)

-- a node of a branch that isn't its first lies in one of its parts
pub in-part : (ns : List NodeView) (k j : ℕ) → ComeLater ns → k < length ns → k ≢ j → 1 ≤ times ns k j
    → (s : Side) × (c : HashNo) × (part s (node_at ns k) ≡ Some c) × (1 ≤ times ns c.0 j)
in-part ns k j L lt ne has =
    let one : (1 ≤ at_part (node_at ns k).inner (total ns (one_at j))) ⊎ (1 ≤ at_part (node_at ns k).outer (total ns (one_at j))) =
    one-of _ _ (omega (arith, has, total-step ns (one_at j) k L lt, one_at-other j k ne)) in
    elim one [
      | inl i ↦ let found = counted-part (node_at ns k).inner (total ns (one_at j)) i in (inward, found.0, found.1, found.2)
      | inr o ↦ let found = counted-part (node_at ns k).outer (total ns (one_at j)) o in (outward, found.0, found.1, found.2)
    ]

-- the branch of a node of a branch has no more than that
within_le : (m : ℕ) (ns : List NodeView) (g : ℕ → ℕ) (k j : ℕ) → ComeLater ns → k < length ns → length ns ≤ m + k → 1 ≤ times ns k j
    → total ns g j ≤ total ns g k
within_le zero ns g k j L lt q has = absurd (omega (arith, lt, q))
within_le (suc m) ns g k j L lt q has =
    elim (eqb_tells k j) [
      | inl same ↦ omega (arith, ap (total ns g) same.1)
      | inr other ↦
          let found : (s : Side) × (c : HashNo) × (part s (node_at ns k) ≡ Some c) × (1 ≤ times ns c.0 j) = in-part ns k j L lt other.1 has in
          let l : (k < found.1.0) × (found.1.0 < length ns) = L k found.0 found.1 lt found.2 in
          omega (arith, within_le m ns g found.1.0 j L l.1 (omega (arith, l.0, q)) found.3, child-le ns g k found.0 found.1 L lt found.2)
    ]

pub within-le : (ns : List NodeView) (g : ℕ → ℕ) (k j : ℕ) → ComeLater ns → k < length ns → 1 ≤ times ns k j → total ns g j ≤ total ns g k
within-le ns g k j L lt has = within_le (length ns) ns g k j L lt (omega arith) has

-- no branch of a tree has a node twice
pub times-once : (ns : List NodeView) (k j : ℕ) → IsTree ns → k < length ns → j < length ns → times ns k j ≤ 1
times-once ns k j T lk lj =
    let root : 1 ≤ times ns 0 k = omega (arith, T.linked.once k lk) in
    omega (arith, T.linked.once j lj, within-le ns (one_at j) 0 k T.linked.later (omega (arith, lk)) root)

-- a node of a branch that isn't its first has its parent in the branch
has_parent : (m : ℕ) (ns : List NodeView) (k : ℕ) (c : HashNo) → ComeLater ns → k < length ns → length ns ≤ m + k → k ≢ c.0 → 1 ≤ times ns k c.0
    → (p : ℕ) × (s : Side) × (p < length ns) × (1 ≤ times ns k p) × (part s (node_at ns p) ≡ Some c)
has_parent zero ns k c L lt q ne has = absurd (omega (arith, lt, q))
has_parent (suc m) ns k c L lt q ne has =
    let found : (s : Side) × (d : HashNo) × (part s (node_at ns k) ≡ Some d) × (1 ≤ times ns d.0 c.0) = in-part ns k c.0 L lt ne has in
    let l : (k < found.1.0) × (found.1.0 < length ns) = L k found.0 found.1 lt found.2 in
    elim (eqb_tells found.1.0 c.0) [
      | inl same ↦ (k, found.0, lt, times-self ns k L lt, found.2 ∙ ap (λ i. Some (record { 0 = i })) same.1)
      | inr other ↦
          let above : (p : ℕ) × (s : Side) × (p < length ns) × (1 ≤ times ns found.1.0 p) × (part s (node_at ns p) ≡ Some c) =
          has_parent m ns found.1.0 c L l.1 (omega (arith, l.0, q)) other.1 found.3 in
          (above.0, above.1, above.2, omega (arith, above.3, child-le ns (one_at above.0) k found.0 found.1 L lt found.2), above.4)
    ]

pub has-parent : (ns : List NodeView) (k : ℕ) (c : HashNo) → ComeLater ns → k < length ns → k ≢ c.0 → 1 ≤ times ns k c.0
    → (p : ℕ) × (s : Side) × (p < length ns) × (1 ≤ times ns k p) × (part s (node_at ns p) ≡ Some c)
has-parent ns k c L lt ne has = has_parent (length ns) ns k c L lt (omega arith) ne has

-- a child of a node outside of a branch lies outside, or is the first of the branch
pub child-outside : (ns : List NodeView) (top k : ℕ) (s : Side) (c : HashNo) → IsTree ns → top < length ns → k < length ns → times ns top k ≡ 0
    → part s (node_at ns k) ≡ Some c → (times ns top c.0 ≡ 0) ⊎ (top ≡ c.0)
child-outside ns top k s c T lt lk out e =
    elim (eqb_tells top c.0) [
      | inl same ↦ inr same.1
      | inr other ↦ inl (none_if (times ns top c.0) (λ has.
          let above : (p : ℕ) × (t : Side) × (p < length ns) × (1 ≤ times ns top p) × (part t (node_at ns p) ≡ Some c) =
          has-parent ns top c T.linked.later lt other.1 has in
          let same : (k ≡ above.0) × (s ≡ above.1) = T.linked.single k above.0 s above.1 c lk above.2 e above.4 in
          omega (arith, out, above.3, ap (times ns top) same.0)))
    ]

-- the sum over a branch, number by number
by-number : (ns : List NodeView) (g : ℕ → ℕ) (k : ℕ) (js : List ℕ) → ComeLater ns → k < length ns
    → sum_by (λ j. times ns k j * g j) js ≡ total ns (λ i. sum_by (λ j. one_at j i * g j) js) k
by-number ns g k [] L lt = sym (total_in-none (length ns) ns (λ i. sum_by (λ j. one_at j i * g j) []) 0 k L (λ i _ _. refl) (omega arith) lt)
by-number ns g k (j ∷ js) L lt =
    let split : total ns (λ i. sum_by (λ j. one_at j i * g j) (j ∷ js)) k ≡ total ns (λ i. one_at j i * g j + sum_by (λ j. one_at j i * g j) js) k =
    total_in-equal (length ns) ns (λ i. sum_by (λ j. one_at j i * g j) (j ∷ js)) (λ i. one_at j i * g j + sum_by (λ j. one_at j i * g j) js) k L (λ i _. sum_by-cons (λ j. one_at j i * g j) j js) lt in
    omega (
      arith,
      split,
      sum_by-cons (λ j. times ns k j * g j) j js,
      total-add ns (λ i. one_at j i * g j) (λ i. sum_by (λ j. one_at j i * g j) js) k,
      total_in-scale (length ns) ns (one_at j) (g j) k,
      by-number ns g k js L lt,
    )

times-zero : (m n : ℕ) → m ≡ 0 → m * n ≡ 0
times-zero m n e = rw e (omega arith)

times-one : (m n : ℕ) → m ≡ 1 → m * n ≡ n
times-one m n e = rw e (omega arith)

-- of a range just the number itself is picked
pick-none : (m a i : ℕ) (g : ℕ → ℕ) → i < a → sum_by (λ j. one_at j i * g j) (range_with_len a m) ≡ 0
pick-none zero a i g lt = refl
pick-none (suc m) a i g lt =
    omega (
      arith,
      sum_by-cons (λ j. one_at j i * g j) a (range_with_len (a + 1) m),
      times-zero (one_at a i) (g a) (one_at-other a i (omega (arith, lt))),
      pick-none m (a + 1) i g (omega (arith, lt)),
    )

pick-one : (m a i : ℕ) (g : ℕ → ℕ) → a ≤ i → i < a + m → sum_by (λ j. one_at j i * g j) (range_with_len a m) ≡ g i
pick-one zero a i g le lt = absurd (omega (arith, le, lt))
pick-one (suc m) a i g le lt =
    elim (eqb_tells i a) [
      | inl same ↦ omega (
        arith,
        sum_by-cons (λ j. one_at j i * g j) a (range_with_len (a + 1) m),
        times-one (one_at a i) (g a) (ap (one_at a) same.1 ∙ one_at-same a),
        ap g same.1,
        pick-none m (a + 1) i g (omega (arith, same.1)),
      )
      | inr other ↦ omega (
        arith,
        sum_by-cons (λ j. one_at j i * g j) a (range_with_len (a + 1) m),
        times-zero (one_at a i) (g a) (one_at-other a i other.1),
        pick-one m (a + 1) i g (omega (arith, le, other.1)) (omega (arith, lt)),
      )
    ]

kept-one : (b : Bool) (t : ℕ) (g : ℕ → ℕ) (j : ℕ) (js : List ℕ) → nat_lt 0 t ≡ b → t ≤ 1 → sum_by g (cond b (j ∷ js) js) ≡ t * g j + sum_by g js
kept-one b zero g j js e h = rw (sym e) (omega arith)
kept-one b (suc zero) g j js e h = rw (sym e) (omega (arith, sum_by-cons g j js))
kept-one b (suc (suc t)) g j js e h = absurd (omega (arith, h))

-- the numbers of a branch, each once
kept-sum : (m a n : ℕ) (t g : ℕ → ℕ) → ((j : ℕ) → j < n → t j ≤ 1) → a + m ≤ n
    → sum_by g (filter (λ j. nat_lt 0 (t j)) (range_with_len a m)) ≡ sum_by (λ j. t j * g j) (range_with_len a m)
kept-sum zero a n t g h le = refl
kept-sum (suc m) a n t g h le =
    omega (
      arith,
      kept-one (nat_lt 0 (t a)) (t a) g a (filter (λ j. nat_lt 0 (t j)) (range_with_len (a + 1) m)) refl (h a (omega (arith, le))),
      sum_by-cons (λ j. t j * g j) a (range_with_len (a + 1) m),
      kept-sum m (a + 1) n t g h (omega (arith, le)),
    )

-- a sum over the numbers of a branch is the sum over the branch
pub numbers-sum : (ns : List NodeView) (g : ℕ → ℕ) (k : ℕ) → IsTree ns → k < length ns
    → sum_by g (filter (λ j. nat_lt 0 (times ns k j)) (range_with_len 0 (length ns))) ≡ total ns g k
numbers-sum ns g k T lt =
    kept-sum (length ns) 0 (length ns) (times ns k) g (λ j lj. times-once ns k j T lt lj) (omega arith)
    ∙ by-number ns g k (range_with_len 0 (length ns)) T.linked.later lt
    ∙ total_in-equal (length ns) ns (λ i. sum_by (λ j. one_at j i * g j) (range_with_len 0 (length ns))) g k T.linked.later
    (λ i li. pick-one (length ns) 0 i g (omega arith) (omega (arith, li))) lt

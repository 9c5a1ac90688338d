-- The points of a branch: those that were taken, and the branches that are still to be read.
use Rattle.std.proofs.Common.{◌≡◌, ◌∙◌, ℕ, zero, suc, ◌+◌, ◌<◌, ◌≤◌, nat_lt, Bool, true, false, cond, List, [], ◌∷◌, ◌++◌, length, map, filter, sum_by, All, get_or, Some, refl, ap, inl, inr, arith}
use Rattle.std.specs.List.{range_with_len, AllPairs}
use Rattle.std.specs.List.Sorted.{IsNonDecreasingBy, IsPermutation}
use Rattle.std.specs.Option.{option_to_list}
use Rattle.std.proofs.lemmas.Bool.{cases_lt, lt-ltb, ltb-true}
use Rattle.std.proofs.lemmas.Bool.Decides.{eqb_tells}
use Rattle.std.proofs.lemmas.List.Elements.{All-append, All-cons, All-nil, All-pop}
use Rattle.std.proofs.lemmas.List.Kept.{AllPairs-cons}
use Rattle.std.proofs.lemmas.List.Sorted.{All-permutation, sum_by-IsPermutation}
use Rattle.std.proofs.lemmas.List.Sums.{sum_by-cons, sum_by-append, get_or-le-sum_by, sum_by_push}
use Rattle.media_types.specs.declared.limits.TheConstants.{MAX_WORDS}
use Rattle.media_types.specs.declared.numbers.HashNo.{HashNo}
use Rattle.vp_tree.specs.declared.building.Point.{Point}
use Rattle.vp_tree.specs.declared.node.NodeView.{NodeView}
use Rattle.vp_tree.specs.Building.{point_at, points}
use Rattle.vp_tree.specs.Nodes.{node_at, one_at, total, times, size}
use Rattle.vp_tree.specs.Shape.{inward, outward, IsTree}
use Rattle.vp_tree.proofs.Branches.{total-step}
use Rattle.vp_tree.proofs.Built.{length-sum}
use Rattle.vp_tree.proofs.Finding.{All-one, All-option, sum-put}
use Rattle.vp_tree.proofs.Sorting.{found_times, found_times-cons, found_times-none, one_at-other, one_at-same, sorted_from}
use Rattle.vp_tree.proofs.Times.{times-before, times-self, times-once, within-le, numbers-sum}

abbrev pub number_in : Point → ℕ
number_in p = p.number.0

-- each point of the branch was taken, or lies in just one of the branches on the stack
pub record IsCollecting (ns : List NodeView) (top : ℕ) (ps : List Point) (stack : List HashNo) : Type 0 where
  pub inside : All (λ s. s.0 < length ns) stack
  pub right : All (λ p. (p.number.0 < length ns) × (p ≡ point_at ns p.number.0)) ps
  pub each : (j : ℕ) → sum_by (λ p. one_at j p.number.0) ps + sum_by (λ s. times ns s.0 j) stack ≡ times ns top j

pub collecting-first : (ns : List NodeView) (top : HashNo) → top.0 < length ns → IsCollecting ns top.0 [] (top ∷ [])
collecting-first ns top lt = record {
  inside = All-one (λ s. s.0 < length ns) top lt;
  right = All-nil (λ p. (p.number.0 < length ns) × (p ≡ point_at ns p.number.0));
  each = λ j. omega (arith, sum_by-cons (λ s. times ns s.0 j) top []);
}

pub taken-within : (ns : List NodeView) (top : ℕ) (ps : List Point) (stack : List HashNo) (at : HashNo)
    → IsCollecting ns top ps (stack ++ at ∷ []) → at.0 < length ns
taken-within ns top ps stack at h = (All-pop (λ s. s.0 < length ns) (stack ++ at ∷ []) stack (Some at) refl h.inside).1

-- a branch was taken from the stack, and the parts of its node were put: one node fewer is left
pub size-taken : (ns : List NodeView) (old rest new : List HashNo) (at : HashNo) → IsTree ns → at.0 < length ns → old ≡ rest ++ at ∷ []
    → new ≡ rest ++ option_to_list (node_at ns at.0).inner ++ option_to_list (node_at ns at.0).outer
    → sum_by (λ s. size ns s.0) old ≡ 1 + sum_by (λ s. size ns s.0) new
size-taken ns old rest new at T lt taken put =
    rw (taken, put)
    (omega (
      arith,
      sum_by_push (λ s. size ns s.0) rest at,
      sum-put (size ns) rest (node_at ns at.0).inner (node_at ns at.0).outer,
      total-step ns (λ _. 1) at.0 T.linked.later lt,
    ))

pub collecting-more : (ns : List NodeView) (top : ℕ) (ps : List Point) (stack : List HashNo) (at : HashNo) → IsTree ns
    → IsCollecting ns top ps (stack ++ at ∷ [])
    → IsCollecting ns top (ps ++ point_at ns at.0 ∷ []) (stack ++ option_to_list (node_at ns at.0).inner ++ option_to_list (node_at ns at.0).outer)
collecting-more ns top ps stack at T h =
    let before : All (λ s. s.0 < length ns) stack × (at.0 < length ns) = All-pop (λ s. s.0 < length ns) (stack ++ at ∷ []) stack (Some at) refl h.inside in
    let node : NodeView = node_at ns at.0 in
    record {
      inside = All-append (λ s. s.0 < length ns) (stack ++ option_to_list node.inner) (option_to_list node.outer)
          (All-append (λ s. s.0 < length ns) stack (option_to_list node.inner) before.0
          (All-option (λ s. s.0 < length ns) node.inner (λ c e. (T.linked.later at.0 inward c before.1 e).1)))
          (All-option (λ s. s.0 < length ns) node.outer (λ c e. (T.linked.later at.0 outward c before.1 e).1));
      right = All-append (λ p. (p.number.0 < length ns) × (p ≡ point_at ns p.number.0)) ps (point_at ns at.0 ∷ []) h.right
          (All-cons (λ p. (p.number.0 < length ns) × (p ≡ point_at ns p.number.0)) (point_at ns at.0) [] (before.1, refl) (All-nil (λ p. (p.number.0 < length ns) × (p ≡ point_at ns p.number.0))));
      each = λ j. omega (
        arith,
        h.each j,
        sum_by-append (λ p. one_at j p.number.0) ps (point_at ns at.0 ∷ []),
        sum_by-cons (λ p. one_at j p.number.0) (point_at ns at.0) [],
        sum_by_push (λ s. times ns s.0 j) stack at,
        sum-put (λ i. times ns i j) stack node.inner node.outer,
        total-step ns (one_at j) at.0 T.linked.later before.1,
      );
    }

-- what was taken in the end, sorted
pub collected : (ns : List NodeView) (top : ℕ) (ps sorted : List Point) → IsTree ns → top < length ns → IsCollecting ns top ps []
    → IsPermutation ps sorted → IsNonDecreasingBy number_in sorted → sorted ≡ points ns top
collected ns top ps sorted T lt h moved up =
    let found : (j : ℕ) → sum_by (λ p. one_at j p.number.0) sorted ≡ times ns top j =
    λ j. omega (arith, h.each j, sum_by-IsPermutation (λ p. one_at j p.number.0) ps sorted moved) in
    sorted_from number_in (point_at ns) (λ k. nat_lt 0 (times ns top k)) (length ns) 0 (length ns) sorted (omega arith) (λ k. refl)
    (λ k d lk. let r : ((get_or sorted k d).number.0 < length ns) × (get_or sorted k d ≡ point_at ns (get_or sorted k d).number.0) =
    All-permutation (λ p. (p.number.0 < length ns) × (p ≡ point_at ns p.number.0)) ps sorted moved h.right k d lk in (
      omega arith,
      r.0,
      r.1,
      lt-ltb 0 (times ns top (get_or sorted k d).number.0)
          (omega (arith, found (get_or sorted k d).number.0, one_at-same (get_or sorted k d).number.0, get_or-le-sum_by (λ p. one_at (get_or sorted k d).number.0 p.number.0) sorted k d lk)),
    ))
    up
    (λ j le jn want. omega (arith, found j, ltb-true 0 (times ns top j) want, times-once ns top j T lt jn))

all-if : {X : Type 0} (P : X → Type 0) (make : ℕ → X) (b : Bool) (a : ℕ) (js : List ℕ) → (b ≡ true → P (make a)) → All P (map make js)
    → All P (map make (cond b (a ∷ js) js))
all-if P make true a js here rest = All-cons P (make a) (map make js) (here refl) rest
all-if P make false a js here rest = rest

-- what holds of all that is made of the numbers of a range that are wanted
all-made : {X : Type 0} (P : X → Type 0) (make : ℕ → X) (want : ℕ → Bool) (m a end : ℕ) → end ≡ a + m
    → ((j : ℕ) → a ≤ j → j < end → want j ≡ true → P (make j)) → All P (map make (filter want (range_with_len a m)))
all-made P make want zero a end e h = All-nil P
all-made P make want (suc m) a end e h =
    all-if P make (want a) a (filter want (range_with_len (a + 1) m)) (λ w. h a (omega arith) (omega (arith, e)) w)
    (all-made P make want m (a + 1) end (omega (arith, e)) (λ j le lt w. h j (omega (arith, le)) lt w))

abbrev pub IsUp : List Point → Type 0
IsUp ps = AllPairs (λ p q. p.number.0 < q.number.0) ps

up-if : (make : ℕ → Point) (b : Bool) (a : ℕ) (js : List ℕ) → All (λ q. (make a).number.0 < q.number.0) (map make js) → IsUp (map make js)
    → IsUp (map make (cond b (a ∷ js) js))
up-if make true a js first rest = AllPairs-cons (λ p q. p.number.0 < q.number.0) (make a) (map make js) first rest
up-if make false a js first rest = rest

up-made : (ns : List NodeView) (want : ℕ → Bool) (m a : ℕ) → IsUp (map (point_at ns) (filter want (range_with_len a m)))
up-made ns want zero a = λ i j d ij lt. absurd (omega (arith, lt))
up-made ns want (suc m) a =
    up-if (point_at ns) (want a) a (filter want (range_with_len (a + 1) m))
    (all-made (λ q. a < q.number.0) (point_at ns) want m (a + 1) (a + 1 + m) (omega arith) (λ j le lt w. omega (arith, le)))
    (up-made ns want m (a + 1))

pub points-up : (ns : List NodeView) (top : ℕ) → IsUp (points ns top)
points-up ns top = up-made ns (λ k. nat_lt 0 (times ns top k)) (length ns) 0

-- each point has a number of the branch, and its word
pub points-right : (ns : List NodeView) (top : ℕ)
    → All (λ p. (p.number.0 < length ns) × (p.word ≡ (node_at ns p.number.0).word)) (points ns top)
points-right ns top =
    all-made (λ p. (p.number.0 < length ns) × (p.word ≡ (node_at ns p.number.0).word)) (point_at ns) (λ k. nat_lt 0 (times ns top k)) (length ns) 0 (length ns) (omega arith)
    (λ j le lt w. (lt, refl))

sum_by-made : {X Y : Type 0} (g : Y → ℕ) (f : X → Y) (xs : List X) → sum_by g (map f xs) ≡ sum_by (λ x. g (f x)) xs
sum_by-made g f [] = refl
sum_by-made g f (x ∷ xs) = omega (arith, sum_by-cons g (f x) (map f xs), sum_by-cons (λ y. g (f y)) x xs, sum_by-made g f xs)

-- a sum over the points of a branch is the sum over the branch
pub points-sum : (ns : List NodeView) (g : ℕ → ℕ) (top : ℕ) → IsTree ns → top < length ns → sum_by (λ p. g p.number.0) (points ns top) ≡ total ns g top
points-sum ns g top T lt =
    sum_by-made (λ p. g p.number.0) (point_at ns) (filter (λ k. nat_lt 0 (times ns top k)) (range_with_len 0 (length ns))) ∙ numbers-sum ns g top T lt

no_earlier : (m n : ℕ) → (n < m → ⊥) → m ≤ n
no_earlier m n h = elim (cases_lt n m) [ inl lt ↦ absurd (h lt) | inr le ↦ le ]

points-after : (ns : List NodeView) (top : ℕ) → IsTree ns → top < length ns → All (λ p. top ≤ p.number.0) (points ns top)
points-after ns top T lt =
    all-made (λ p. top ≤ p.number.0) (point_at ns) (λ k. nat_lt 0 (times ns top k)) (length ns) 0 (length ns) (omega arith)
    (λ j le lj w. no_earlier top j (λ before. omega (arith, ltb-true 0 (times ns top j) w, times-before ns top j T.linked.later lt before)))

first_of_up : (top : ℕ) (ps : List Point) → All (λ p. top ≤ p.number.0) ps → IsUp ps → 1 ≤ sum_by (λ p. one_at top p.number.0) ps
    → (p : Point) × (qs : List Point) × (ps ≡ p ∷ qs) × (p.number.0 ≡ top)
first_of_up top [] after up has = absurd (omega (arith, has))
first_of_up top (p ∷ qs) after up has = (
  p,
  qs,
  refl,
  elim (eqb_tells p.number.0 top) [
    | inl same ↦ same.1
    | inr other ↦
        let none : found_times number_in top qs ≡ 0 = found_times-none number_in top qs
        (λ k d lt. λ same. let later : p.number.0 < (get_or qs k d).number.0 = up 0 (suc k) d (omega arith) (omega (arith, lt)) in
        let le : top ≤ p.number.0 = after 0 p (omega arith) in omega (arith, later, same, le)) in
        absurd (omega (arith, has, found_times-cons number_in top p qs, none, one_at-other top p.number.0 other.1))
  ],
)

-- the first point of a branch is that of its first node
pub points-first : (ns : List NodeView) (top : ℕ) → IsTree ns → top < length ns
    → (p : Point) × (qs : List Point) × (points ns top ≡ p ∷ qs) × (p.number.0 ≡ top)
points-first ns top T lt =
    first_of_up top (points ns top) (points-after ns top T lt) (points-up ns top)
    (omega (arith, points-sum ns (one_at top) top T lt, times-self ns top T.linked.later lt))

pub points-few : (ns : List NodeView) (top : ℕ) → IsTree ns → top < length ns → length (points ns top) ≤ MAX_WORDS
points-few ns top T lt =
    let root : 1 ≤ times ns 0 top = omega (arith, T.linked.once top lt) in
    omega (
      arith,
      length-sum (points ns top),
      points-sum ns (λ _. 1) top T lt,
      within-le ns (λ _. 1) 0 top T.linked.later (omega (arith, lt)) root,
      T.linked.all (omega (arith, lt)),
      T.few,
    )

all-wanted : (want : ℕ → Bool) (m a end : ℕ) → end ≡ a + m → ((j : ℕ) → j < end → want j ≡ true)
    → filter want (range_with_len a m) ≡ range_with_len a m
all-wanted want zero a end e h = refl
all-wanted want (suc m) a end e h =
    rw (h a (omega (arith, e))) (ap (λ js. a ∷ js) (all-wanted want m (a + 1) end (omega (arith, e)) h))

-- the root's branch has the points of all words
pub points-root : (ns : List NodeView) → IsTree ns → points ns 0 ≡ map (point_at ns) (range_with_len 0 (length ns))
points-root ns T =
    ap (map (point_at ns)) (all-wanted (λ k. nat_lt 0 (times ns 0 k)) (length ns) 0 (length ns) (omega arith)
    (λ j lj. lt-ltb 0 (times ns 0 j) (omega (arith, T.linked.once j lj))))

-- The nodes of a branch that is built, put in the place of those that it had.
use Rattle.std.proofs.Common.{◌≡◌, ◌≢◌, ◌∙◌, ℕ, zero, suc, ◌+◌, ◌<◌, ◌≤◌, List, [], ◌∷◌, ◌++◌, length, sum_by, take, All, get_or, Some, refl, sym, ap, subst, arith}
use Rattle.std.specs.Option.{ForSome}
use Rattle.std.proofs.Math.ListN.{set}
use Rattle.std.proofs.lemmas.List.{get_or-set_same, get_or-set_other, length-set, take_all}
use Rattle.std.proofs.lemmas.List.Elements.{All-append, All-cons, All-nil, All-more}
use Rattle.std.proofs.lemmas.List.Sums.{sum_by-cons, sum_by-append, sum_by_more, sum_by_more_le}
use Rattle.media_types.specs.declared.limits.TheConstants.{MAX_WORDS}
use Rattle.media_types.specs.declared.numbers.HashNo.{HashNo}
use Rattle.vp_tree.specs.declared.building.Point.{Point}
use Rattle.vp_tree.specs.declared.node.NodeView.{NodeView}
use Rattle.vp_tree.specs.Building.{points, inner_part, outer_part, least_radius, radius_over, first_number, built_node, built_of, IsRebuilt}
use Rattle.vp_tree.specs.Nodes.{leaf, node_at, one_at, times}
use Rattle.vp_tree.specs.Shape.{IsTree}
use Rattle.vp_tree.specs.Stored.{IsStorable}
use Rattle.vp_tree.proofs.Built.{built-step, inner-short, outer-short, sum_by-parts, All-inner, All-outer}
use Rattle.vp_tree.proofs.Collecting.{points-right, points-sum}
use Rattle.vp_tree.proofs.Radii.{least_radius-le}
use Rattle.vp_tree.proofs.Sorting.{one_at-same, found_times-zero}
use Rattle.vp_tree.proofs.Times.{times-once}

-- what holds of each node that is built over points holds of all
built_all : (f : ℕ) (Q : Point → Type 0) (P : HashNo × NodeView → Type 0) (ps : List Point) → length ps ≤ f
    → ((p : Point) (qs : List Point) → All Q (p ∷ qs) → P (p.number, built_node p qs)) → All Q ps → All P (built_of ps)
built_all f Q P [] le h q = All-nil P
built_all zero Q P (p ∷ qs) le h q = absurd (omega (arith, le))
built_all (suc f) Q P (p ∷ qs) le h q =
    let rest : All Q qs = λ k d lt. q (suc k) d (omega (arith, lt)) in
    subst (All P) (sym (built-step p qs))
    (All-cons P (p.number, built_node p qs) (built_of (inner_part p qs) ++ built_of (outer_part p qs)) (h p qs q)
    (All-append P (built_of (inner_part p qs)) (built_of (outer_part p qs))
    (built_all f Q P (inner_part p qs) (omega (arith, le, inner-short p qs)) h (All-inner Q p qs rest))
    (built_all f Q P (outer_part p qs) (omega (arith, le, outer-short p qs)) h (All-outer Q p qs rest))))

first-fits : (n : ℕ) (ps : List Point) → n ≤ MAX_WORDS → All (λ p. p.number.0 < n) ps → ForSome (first_number ps) (λ c. c.0 < 0xffff_ffff)
first-fits n [] few h = λ c e. absurd cc
first-fits n (p ∷ ps) few h =
    let first : p.number.0 < n = h 0 p (omega arith) in
    λ c e. let same : Some p.number ≡ Some c = e in let number : p.number ≡ c = cc in omega (arith, first, few, ap (λ (d : HashNo). d.0) number)

radius-fits : (p : Point) (qs : List Point) → ForSome (radius_over p qs) (λ r. r < 0xff)
radius-fits p [] = λ r e. absurd cc
radius-fits p (q ∷ qs) =
    λ r e. let same : Some (least_radius p (q ∷ qs)) ≡ Some r = e in let is : least_radius p (q ∷ qs) ≡ r = cc in omega (arith, is, least_radius-le p (q ∷ qs))

-- the nodes that are put are those of the tree, and can be stored
abbrev pub IsPlaceable : ℕ → HashNo × NodeView → Type 0
IsPlaceable n b = (b.0.0 < n) × IsStorable b.1

placeable : (n : ℕ) (p : Point) (qs : List Point) → n ≤ MAX_WORDS → All (λ q. q.number.0 < n) (p ∷ qs) → IsPlaceable n (p.number, built_node p qs)
placeable n p qs few h =
    let rest : All (λ q. q.number.0 < n) qs = λ k d lt. h (suc k) d (omega (arith, lt)) in (
      h 0 p (omega arith),
      record {
        inner = first-fits n (inner_part p qs) few (All-inner (λ q. q.number.0 < n) p qs rest);
        outer = first-fits n (outer_part p qs) few (All-outer (λ q. q.number.0 < n) p qs rest);
        radius = radius-fits p qs;
      },
    )

pub placeable-at : (ns : List NodeView) (nodes : List (HashNo × NodeView)) (top i : ℕ) (d : HashNo × NodeView) → IsTree ns
    → nodes ≡ built_of (points ns top) → i < length nodes → IsPlaceable (length ns) (get_or nodes i d)
placeable-at ns nodes top i d T e lt =
    subst (All (IsPlaceable (length ns))) (sym e)
    (built_all (length (points ns top)) (λ p. p.number.0 < length ns) (IsPlaceable (length ns)) (points ns top) (omega arith)
    (λ p qs h. placeable (length ns) p qs T.few h) (λ k x kt. (points-right ns top k x kt).0)) i d lt

pub inside-at : (ns rows : List NodeView) (nodes : List (HashNo × NodeView)) (top i : ℕ) (d : HashNo × NodeView) → IsTree ns
    → nodes ≡ built_of (points ns top) → i < length nodes → length rows ≡ length ns → (get_or nodes i d).0.0 < length rows
inside-at ns rows nodes top i d T e lt len = omega (arith, (placeable-at ns nodes top i d T e lt).0, len)

-- each number stands as often among the nodes as among the points
built_sum : (f : ℕ) (g : ℕ → ℕ) (ps : List Point) → length ps ≤ f → sum_by (λ b. g b.0.0) (built_of ps) ≡ sum_by (λ p. g p.number.0) ps
built_sum f g [] le = refl
built_sum zero g (p ∷ qs) le = absurd (omega (arith, le))
built_sum (suc f) g (p ∷ qs) le =
    omega (
      arith,
      ap (sum_by (λ b. g b.0.0)) (built-step p qs),
      sum_by-cons (λ b. g b.0.0) (p.number, built_node p qs) (built_of (inner_part p qs) ++ built_of (outer_part p qs)),
      sum_by-append (λ b. g b.0.0) (built_of (inner_part p qs)) (built_of (outer_part p qs)),
      built_sum f g (inner_part p qs) (omega (arith, le, inner-short p qs)),
      built_sum f g (outer_part p qs) (omega (arith, le, outer-short p qs)),
      sum_by-parts (λ q. g q.number.0) p qs,
      sum_by-cons (λ q. g q.number.0) p qs,
    )

pub built-times : (ns : List NodeView) (top j : ℕ) → IsTree ns → top < length ns
    → sum_by (λ b. one_at j b.0.0) (built_of (points ns top)) ≡ times ns top j
built-times ns top j T lt = built_sum (length (points ns top)) (one_at j) (points ns top) (omega arith) ∙ points-sum ns (one_at j) top T lt

pub nodes-once : (ns : List NodeView) (nodes : List (HashNo × NodeView)) (top j : ℕ) → IsTree ns → top < length ns
    → nodes ≡ built_of (points ns top) → j < length ns → sum_by (λ b. one_at j b.0.0) nodes ≤ 1
nodes-once ns nodes top j T lt e lj = omega (arith, ap (sum_by (λ b. one_at j b.0.0)) e, built-times ns top j T lt, times-once ns top j T lt lj)

-- the first so many nodes were put
pub record IsReplacing (old rows : List NodeView) (nodes : List (HashNo × NodeView)) (i : ℕ) : Type 0 where
  pub len : length rows ≡ length old
  pub put : All (λ b. node_at rows b.0.0 ≡ b.1) (take i nodes)
  pub other : (k : ℕ) → sum_by (λ b. one_at k b.0.0) (take i nodes) ≡ 0 → node_at rows k ≡ node_at old k

pub replacing-none : (old : List NodeView) (nodes : List (HashNo × NodeView)) → IsReplacing old old nodes 0
replacing-none old nodes = record { len = refl; put = All-nil (λ b. node_at old b.0.0 ≡ b.1); other = λ k e. refl }

pub replacing-more : (old rows : List NodeView) (nodes : List (HashNo × NodeView)) (i : ℕ) (d : HashNo × NodeView) → i < length nodes
    → (get_or nodes i d).0.0 < length old → ((j : ℕ) → j < length old → sum_by (λ b. one_at j b.0.0) nodes ≤ 1) → IsReplacing old rows nodes i
    → IsReplacing old (set rows (get_or nodes i d).0.0 (get_or nodes i d).1) nodes (i + 1)
replacing-more old rows nodes i d lt inside once R =
    let b : HashNo × NodeView = get_or nodes i d in
    let new : List NodeView = set rows b.0.0 b.1 in
    let none : sum_by (λ a. one_at b.0.0 a.0.0) (take i nodes) ≡ 0 =
    omega (arith, once b.0.0 inside, sum_by_more_le (λ a. one_at b.0.0 a.0.0) nodes i d lt, one_at-same b.0.0) in
    let apart : All (λ a. a.0.0 ≢ b.0.0) (take i nodes) = found_times-zero (λ (a : HashNo × NodeView). a.0.0) b.0.0 (take i nodes) none in
    record {
      len = length-set rows b.0.0 b.1 ∙ R.len;
      put = All-more (λ a. node_at new a.0.0 ≡ a.1) nodes i d lt
          (λ k e kt. get_or-set_other rows b.0.0 (get_or (take i nodes) k e).0.0 b.1 (leaf (record { 0 = 0 })) (apart k e kt) ∙ R.put k e kt)
          (get_or-set_same rows b.0.0 b.1 (leaf (record { 0 = 0 })) (omega (arith, inside, R.len)));
      other = λ k e.
          let sum : sum_by (λ a. one_at k a.0.0) (take (i + 1) nodes) ≡ sum_by (λ a. one_at k a.0.0) (take i nodes) + one_at k b.0.0 =
          sum_by_more (λ a. one_at k a.0.0) nodes i d lt in
          get_or-set_other rows b.0.0 k b.1 (leaf (record { 0 = 0 }))
          (λ same. let here : one_at k b.0.0 ≡ 1 = ap (λ m. one_at m b.0.0) same ∙ one_at-same b.0.0 in omega (arith, e, sum, here))
          ∙ R.other k (omega (arith, e, sum));
    }

pub replaced : (old rows : List NodeView) (nodes : List (HashNo × NodeView)) (top i : ℕ) → IsTree old → top < length old
    → nodes ≡ built_of (points old top) → length nodes ≤ i → IsReplacing old rows nodes i → IsRebuilt old rows top
replaced old rows nodes top i T lt e all R =
    let whole : take i nodes ≡ built_of (points old top) = take_all i nodes all ∙ e in
    record {
      len = R.len;
      built = rw whole at R.put;
      other = λ k kn none. R.other k (ap (sum_by (λ b. one_at k b.0.0)) whole ∙ built-times old top k T lt ∙ none);
    }

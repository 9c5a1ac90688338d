-- A tree of which a branch was built anew is a tree.
use Rattle.std.proofs.Common.{◌≡◌, ◌∙◌, ℕ, zero, suc, ◌+◌, ◌<◌, ◌≤◌, ◌⊎◌, nat_le, nat_lt, true, List, [], ◌∷◌, ◌++◌, length, sum_by, All, Some, None, refl, sym, ap, subst, inl, inr, arith, eq-zero-or-pos}
use Rattle.std.proofs.lemmas.Bool.{leb-true, ltb-true}
use Rattle.std.proofs.lemmas.Bool.Decides.{eqb_tells}
use Rattle.std.proofs.lemmas.List.{get_or_append_left, length-append}
use Rattle.std.proofs.lemmas.List.Elements.{All-tail, filter_passes}
use Rattle.std.proofs.lemmas.List.Kept.{AllPairs-filter}
use Rattle.std.proofs.lemmas.List.Sums.{sum_by-cons}
use Rattle.media_types.specs.Distance.{distance_of}
use Rattle.media_types.specs.declared.numbers.HashNo.{HashNo}
use Rattle.vp_tree.specs.declared.building.Point.{Point}
use Rattle.vp_tree.specs.declared.node.NodeView.{NodeView}
use Rattle.vp_tree.specs.Building.{points, inner_part, outer_part, least_radius, radius_over, first_number, built_node, built_of, IsRebuilt}
use Rattle.vp_tree.specs.Nodes.{node_at, at_part, one_at, total, times, size}
use Rattle.vp_tree.specs.Shape.{Side, inward, outward, part, ComeLater, IsLinked, IsTree}
use Rattle.vp_tree.proofs.Branches.{at_part-same, total-step}
use Rattle.vp_tree.proofs.Built.{built-step, inner-short, outer-short, sum_by-parts, length-sum, All-inner, All-outer}
use Rattle.vp_tree.proofs.Collecting.{IsUp, points-up, points-right, points-sum, points-first}
use Rattle.vp_tree.proofs.Single.{single-from_once}
use Rattle.vp_tree.proofs.Sorting.{one_at-other}
use Rattle.vp_tree.proofs.Times.{one-of, times-before, child-outside}

-- the nodes have these points built, which are ascending and have the words of the old nodes
record IsBranch (ns ms : List NodeView) (ps : List Point) : Type 0 where
  has : All (λ b. node_at ms b.0.0 ≡ b.1) (built_of ps)
  up : IsUp ps
  right : All (λ p. (p.number.0 < length ns) × (p.word ≡ (node_at ns p.number.0).word)) ps

abbrev side_part : Side → Point → List Point → List Point
side_part inward p qs = inner_part p qs
side_part outward p qs = outer_part p qs

longer : {X : Type 0} (xs ys : List X) (k : ℕ) → k < length xs → k < length (xs ++ ys)
longer xs ys k lt = omega (arith, lt, length-append xs ys)

append-front : {X : Type 0} (P : X → Type 0) (xs ys : List X) → All P (xs ++ ys) → All P xs
append-front P xs ys h k d lt = subst P (get_or_append_left xs ys d k lt) (h k d (longer xs ys k lt))

append-back : {X : Type 0} (P : X → Type 0) (xs ys : List X) → All P (xs ++ ys) → All P ys
append-back P [] ys h = h
append-back P (x ∷ xs) ys h = append-back P xs ys (All-tail P x (xs ++ ys) h)

abbrev IsPut : List NodeView → HashNo × NodeView → Type 0
IsPut ms b = node_at ms b.0.0 ≡ b.1

branch-has : (ns ms : List NodeView) (p : Point) (qs : List Point) → IsBranch ns ms (p ∷ qs)
    → All (IsPut ms) ((p.number, built_node p qs) ∷ (built_of (inner_part p qs) ++ built_of (outer_part p qs)))
branch-has ns ms p qs B = subst (All (IsPut ms)) (built-step p qs) B.has

branch-node : (ns ms : List NodeView) (p : Point) (qs : List Point) → IsBranch ns ms (p ∷ qs) → node_at ms p.number.0 ≡ built_node p qs
branch-node ns ms p qs B = branch-has ns ms p qs B 0 (p.number, built_node p qs) (omega arith)

rest-up : (p : Point) (qs : List Point) → IsUp (p ∷ qs) → IsUp qs
rest-up p qs up i j d ij lt = up (suc i) (suc j) d (omega (arith, ij)) (omega (arith, lt))

branch-part : (s : Side) (ns ms : List NodeView) (p : Point) (qs : List Point) → IsBranch ns ms (p ∷ qs) → IsBranch ns ms (side_part s p qs)
branch-part inward ns ms p qs B = record {
  has = append-front (IsPut ms) (built_of (inner_part p qs)) (built_of (outer_part p qs))
      (All-tail (IsPut ms) (p.number, built_node p qs) (built_of (inner_part p qs) ++ built_of (outer_part p qs)) (branch-has ns ms p qs B));
  up = AllPairs-filter (λ a b. a.number.0 < b.number.0) (λ q. nat_le (distance_of q.word p.word) (least_radius p qs)) qs (rest-up p qs B.up);
  right = All-inner (λ q. (q.number.0 < length ns) × (q.word ≡ (node_at ns q.number.0).word)) p qs
      (All-tail (λ q. (q.number.0 < length ns) × (q.word ≡ (node_at ns q.number.0).word)) p qs B.right);
}
branch-part outward ns ms p qs B = record {
  has = append-back (IsPut ms) (built_of (inner_part p qs)) (built_of (outer_part p qs))
      (All-tail (IsPut ms) (p.number, built_node p qs) (built_of (inner_part p qs) ++ built_of (outer_part p qs)) (branch-has ns ms p qs B));
  up = AllPairs-filter (λ a b. a.number.0 < b.number.0) (λ q. nat_lt (least_radius p qs) (distance_of q.word p.word)) qs (rest-up p qs B.up);
  right = All-outer (λ q. (q.number.0 < length ns) × (q.word ≡ (node_at ns q.number.0).word)) p qs
      (All-tail (λ q. (q.number.0 < length ns) × (q.word ≡ (node_at ns q.number.0).word)) p qs B.right);
}

-- each point of a part comes later than the point that it was parted by
part-later : (s : Side) (ns ms : List NodeView) (p : Point) (qs : List Point) → IsBranch ns ms (p ∷ qs)
    → All (λ q. (p.number.0 < q.number.0) × (q.number.0 < length ns)) (side_part s p qs)
part-later s ns ms p qs B =
    let all : All (λ q. (p.number.0 < q.number.0) × (q.number.0 < length ns)) qs =
    λ k d lt. (B.up 0 (suc k) d (omega arith) (omega (arith, lt)), (B.right (suc k) d (omega (arith, lt))).0) in
    elim s as (λ t. All (λ q. (p.number.0 < q.number.0) × (q.number.0 < length ns)) (side_part t p qs)) [
      | inward ↦ All-inner (λ q. (p.number.0 < q.number.0) × (q.number.0 < length ns)) p qs all
      | outward ↦ All-outer (λ q. (p.number.0 < q.number.0) × (q.number.0 < length ns)) p qs all
    ]

part-built : (s : Side) (p : Point) (qs : List Point) → part s (built_node p qs) ≡ first_number (side_part s p qs)
part-built inward p qs = refl
part-built outward p qs = refl

-- a child of a node that is built is the first of its part
first-child : (P : Point → Type 0) (ps : List Point) (c : HashNo) → first_number ps ≡ Some c → All P ps → (q : Point) × (q.number ≡ c) × P q
first-child P [] c e h = absurd cc
first-child P (q ∷ qs) c e h = (q, cc, h 0 q (omega arith))

-- the sum over a branch that is built is the sum over its points
part-total : (f : ℕ) (ns ms : List NodeView) (g : ℕ → ℕ) (ps : List Point) → ComeLater ms → length ms ≡ length ns → IsBranch ns ms ps
    → length ps ≤ f → at_part (first_number ps) (total ms g) ≡ sum_by (λ q. g q.number.0) ps
part-total f ns ms g [] L len B le = refl
part-total zero ns ms g (p ∷ qs) L len B le = absurd (omega (arith, le))
part-total (suc f) ns ms g (p ∷ qs) L len B le =
    let node : node_at ms p.number.0 ≡ built_node p qs = branch-node ns ms p qs B in
    let inside : p.number.0 < length ns = (B.right 0 p (omega arith)).0 in
    omega (
      arith,
      total-step ms g p.number.0 L (omega (arith, inside, len)),
      ap (λ v. at_part v.inner (total ms g)) node,
      ap (λ v. at_part v.outer (total ms g)) node,
      part-total f ns ms g (inner_part p qs) L len (branch-part inward ns ms p qs B) (omega (arith, le, inner-short p qs)),
      part-total f ns ms g (outer_part p qs) L len (branch-part outward ns ms p qs B) (omega (arith, le, outer-short p qs)),
      sum_by-parts (λ q. g q.number.0) p qs,
      sum_by-cons (λ q. g q.number.0) p qs,
    )

-- a number among the points has its own branch
find-branch : (f : ℕ) (ns ms : List NodeView) (ps : List Point) (k : ℕ) → length ps ≤ f → IsBranch ns ms ps
    → 1 ≤ sum_by (λ p. one_at k p.number.0) ps → (p : Point) × (qs : List Point) × (p.number.0 ≡ k) × IsBranch ns ms (p ∷ qs)
find-branch f ns ms [] k le B has = absurd (omega (arith, has))
find-branch zero ns ms (p ∷ qs) k le B has = absurd (omega (arith, le))
find-branch (suc f) ns ms (p ∷ qs) k le B has =
    elim (eqb_tells p.number.0 k) [
      | inl same ↦ (p, qs, same.1, B)
      | inr other ↦ elim (one-of (sum_by (λ q. one_at k q.number.0) (inner_part p qs)) (sum_by (λ q. one_at k q.number.0) (outer_part p qs))
          (omega (arith, has, sum_by-cons (λ q. one_at k q.number.0) p qs, one_at-other k p.number.0 other.1, sum_by-parts (λ q. one_at k q.number.0) p qs))) [
            | inl i ↦ find-branch f ns ms (inner_part p qs) k (omega (arith, le, inner-short p qs)) (branch-part inward ns ms p qs B) i
            | inr o ↦ find-branch f ns ms (outer_part p qs) k (omega (arith, le, outer-short p qs)) (branch-part outward ns ms p qs B) o
          ]
    ]

find-point : (P : Point → Type 0) (ps : List Point) (j : ℕ) → All P ps → 1 ≤ sum_by (λ q. one_at j q.number.0) ps
    → (q : Point) × (q.number.0 ≡ j) × P q
find-point P [] j h has = absurd (omega (arith, has))
find-point P (q ∷ qs) j h has =
    elim (eqb_tells q.number.0 j) [
      | inl same ↦ (q, same.1, h 0 q (omega arith))
      | inr other ↦ find-point P qs j (All-tail P q qs h) (omega (arith, has, sum_by-cons (λ q. one_at j q.number.0) q qs, one_at-other j q.number.0 other.1))
    ]

whole : (ns ms : List NodeView) (top : ℕ) → IsRebuilt ns ms top → IsBranch ns ms (points ns top)
whole ns ms top R = record { has = R.built; up = points-up ns top; right = points-right ns top }

-- a node of the branch, as it is built
built-at : (ns ms : List NodeView) (top k : ℕ) → IsTree ns → IsRebuilt ns ms top → top < length ns → 1 ≤ times ns top k
    → (p : Point) × (qs : List Point) × (node_at ms k ≡ built_node p qs) × (p.number.0 ≡ k) × IsBranch ns ms (p ∷ qs)
built-at ns ms top k T R lt has =
    let found : (p : Point) × (qs : List Point) × (p.number.0 ≡ k) × IsBranch ns ms (p ∷ qs) =
    find-branch (length (points ns top)) ns ms (points ns top) k (omega arith) (whole ns ms top R) (omega (arith, has, points-sum ns (one_at k) top T lt)) in
    (found.0, found.1, ap (node_at ms) (sym found.2) ∙ branch-node ns ms found.0 found.1 found.3, found.2, found.3)

pub rebuilt-word : (ns ms : List NodeView) (top k : ℕ) → IsTree ns → IsRebuilt ns ms top → top < length ns → k < length ns
    → (node_at ms k).word ≡ (node_at ns k).word
rebuilt-word ns ms top k T R lt lk =
    elim (eq-zero-or-pos (times ns top k)) [
      | inl out ↦ ap (λ v. v.word) (R.other k lk out)
      | inr has ↦
          let b = built-at ns ms top k T R lt has in
          ap (λ v. v.word) b.2 ∙ (b.4.right 0 b.0 (omega arith)).1 ∙ ap (λ i. (node_at ns i).word) b.3
    ]

rebuilt-later : (ns ms : List NodeView) (top : ℕ) → IsTree ns → IsRebuilt ns ms top → top < length ns → ComeLater ms
rebuilt-later ns ms top T R lt k s c lk e =
    let kn : k < length ns = omega (arith, lk, R.len) in
    elim (eq-zero-or-pos (times ns top k)) [
      | inl out ↦ let l : (k < c.0) × (c.0 < length ns) = T.linked.later k s c kn (sym (ap (part s) (R.other k kn out)) ∙ e) in (l.0, omega (arith, l.1, R.len))
      | inr has ↦
          let b = built-at ns ms top k T R lt has in
          let child : (q : Point) × (q.number ≡ c) × ((b.0.number.0 < q.number.0) × (q.number.0 < length ns)) =
          first-child (λ q. (b.0.number.0 < q.number.0) × (q.number.0 < length ns)) (side_part s b.0 b.1) c
          (sym (ap (part s) b.2 ∙ part-built s b.0 b.1) ∙ e) (part-later s ns ms b.0 b.1 b.4) in
          let number : child.0.number.0 ≡ c.0 = ap (λ (d : HashNo). d.0) child.1 in
          (omega (arith, child.2.0, b.3, number), omega (arith, child.2.1, number, R.len))
    ]

top-total : (ns ms : List NodeView) (g : ℕ → ℕ) (top : ℕ) → IsTree ns → IsRebuilt ns ms top → top < length ns → total ms g top ≡ total ns g top
top-total ns ms g top T R lt =
    let first : (p : Point) × (qs : List Point) × (points ns top ≡ p ∷ qs) × (p.number.0 ≡ top) = points-first ns top T lt in
    ap (total ms g) (sym first.3) ∙ ap (λ ps. at_part (first_number ps) (total ms g)) (sym first.2)
    ∙ part-total (length (points ns top)) ns ms g (points ns top) (rebuilt-later ns ms top T R lt) R.len (whole ns ms top R) (omega arith)
    ∙ points-sum ns g top T lt

-- a node outside of the branch, and the first of the branch, have as much below as before
outside_total : (m : ℕ) (ns ms : List NodeView) (g : ℕ → ℕ) (top k : ℕ) → IsTree ns → IsRebuilt ns ms top → top < length ns
    → k < length ns → length ns ≤ m + k → (times ns top k ≡ 0) ⊎ (top ≡ k) → total ms g k ≡ total ns g k
outside_total zero ns ms g top k T R lt lk q h = absurd (omega (arith, lk, q))
outside_total (suc m) ns ms g top k T R lt lk q (inr same) = subst (λ i. total ms g i ≡ total ns g i) same (top-total ns ms g top T R lt)
outside_total (suc m) ns ms g top k T R lt lk q (inl out) =
    let node : node_at ms k ≡ node_at ns k = R.other k lk out in
    let child : (s : Side) (c : HashNo) → part s (node_at ns k) ≡ Some c → total ms g c.0 ≡ total ns g c.0 =
    λ s c e. let l : (k < c.0) × (c.0 < length ns) = T.linked.later k s c lk e in
    outside_total m ns ms g top c.0 T R lt l.1 (omega (arith, l.0, q)) (child-outside ns top k s c T lt lk out e) in
    omega (
      arith,
      total-step ms g k (rebuilt-later ns ms top T R lt) (omega (arith, lk, R.len)),
      total-step ns g k T.linked.later lk,
      ap (λ v. at_part v.inner (total ms g)) node,
      ap (λ v. at_part v.outer (total ms g)) node,
      at_part-same (node_at ns k).inner (total ms g) (total ns g) (child inward),
      at_part-same (node_at ns k).outer (total ms g) (total ns g) (child outward),
    )

outside-total : (ns ms : List NodeView) (g : ℕ → ℕ) (top k : ℕ) → IsTree ns → IsRebuilt ns ms top → top < length ns
    → k < length ns → (times ns top k ≡ 0) ⊎ (top ≡ k) → total ms g k ≡ total ns g k
outside-total ns ms g top k T R lt lk h = outside_total (length ns) ns ms g top k T R lt lk (omega arith) h

root-total : (ns ms : List NodeView) (g : ℕ → ℕ) (top : ℕ) → IsTree ns → IsRebuilt ns ms top → top < length ns → total ms g 0 ≡ total ns g 0
root-total ns ms g top T R lt =
    outside-total ns ms g top 0 T R lt (omega (arith, lt))
    (elim (eqb_tells top 0) [
      | inl same ↦ inr same.1
      | inr other ↦ inl (times-before ns top 0 T.linked.later lt (omega (arith, other.1)))
    ])

rebuilt-once : (ns ms : List NodeView) (top : ℕ) → IsTree ns → IsRebuilt ns ms top → top < length ns → (j : ℕ) → j < length ms → times ms 0 j ≡ 1
rebuilt-once ns ms top T R lt j lj = root-total ns ms (one_at j) top T R lt ∙ T.linked.once j (omega (arith, lj, R.len))

rebuilt-linked : (ns ms : List NodeView) (top : ℕ) → IsTree ns → IsRebuilt ns ms top → top < length ns → IsLinked ms
rebuilt-linked ns ms top T R lt = record {
  later = rebuilt-later ns ms top T R lt;
  single = single-from_once ms (rebuilt-later ns ms top T R lt) (rebuilt-once ns ms top T R lt);
  once = rebuilt-once ns ms top T R lt;
  all = λ _. root-total ns ms (λ _. 1) top T R lt ∙ T.linked.all (omega (arith, lt)) ∙ sym R.len;
}

radius-is : (p : Point) (qs : List Point) (r : ℕ) → radius_over p qs ≡ Some r → least_radius p qs ≡ r
radius-is p [] r e = absurd cc
radius-is p (q ∷ qs) r e = cc

-- a node below a node that is built is one of the points of a part
below-built : (s : Side) (ns ms : List NodeView) (p : Point) (qs : List Point) (c : HashNo) (j : ℕ) (P : Point → Type 0) → ComeLater ms
    → length ms ≡ length ns → IsBranch ns ms (p ∷ qs) → first_number (side_part s p qs) ≡ Some c → 1 ≤ times ms c.0 j → All P (side_part s p qs)
    → (q : Point) × (q.number.0 ≡ j) × (P q × (q.word ≡ (node_at ns q.number.0).word))
below-built s ns ms p qs c j P L len B e has h =
    let B' : IsBranch ns ms (side_part s p qs) = branch-part s ns ms p qs B in
    let sum : at_part (first_number (side_part s p qs)) (total ms (one_at j)) ≡ sum_by (λ q. one_at j q.number.0) (side_part s p qs) =
    part-total (length (side_part s p qs)) ns ms (one_at j) (side_part s p qs) L len B' (omega arith) in
    find-point (λ q. P q × (q.word ≡ (node_at ns q.number.0).word)) (side_part s p qs) j
    (λ k d lt. (h k d lt, (B'.right k d lt).1))
    (omega (arith, has, sum, ap (λ o. at_part o (total ms (one_at j))) e))

rebuilt-near : (ns ms : List NodeView) (top : ℕ) → IsTree ns → IsRebuilt ns ms top → top < length ns → (k j r : ℕ) (c : HashNo)
    → k < length ms → j < length ms → (node_at ms k).radius ≡ Some r → (node_at ms k).inner ≡ Some c → 1 ≤ times ms c.0 j
    → distance_of (node_at ms j).word (node_at ms k).word ≤ r
rebuilt-near ns ms top T R lt k j r c lk lj er ec has =
    let kn : k < length ns = omega (arith, lk, R.len) in
    let jn : j < length ns = omega (arith, lj, R.len) in
    rw (rebuilt-word ns ms top j T R lt jn, rebuilt-word ns ms top k T R lt kn)
    (elim (eq-zero-or-pos (times ns top k)) [
      | inl out ↦
          let node : node_at ms k ≡ node_at ns k = R.other k kn out in
          let child : (node_at ns k).inner ≡ Some c = sym (ap (λ v. v.inner) node) ∙ ec in
          let same : times ms c.0 j ≡ times ns c.0 j =
          outside-total ns ms (one_at j) top c.0 T R lt (T.linked.later k inward c kn child).1 (child-outside ns top k inward c T lt kn out child) in
          T.cut.near k j r c kn jn (sym (ap (λ v. v.radius) node) ∙ er) child (omega (arith, has, same))
      | inr inside ↦
          let b = built-at ns ms top k T R lt inside in
          let found = below-built inward ns ms b.0 b.1 c j (λ q. nat_le (distance_of q.word b.0.word) (least_radius b.0 b.1) ≡ true)
          (rebuilt-later ns ms top T R lt) R.len b.4 (sym (ap (λ v. v.inner) b.2) ∙ ec) has
          (filter_passes (λ q. nat_le (distance_of q.word b.0.word) (least_radius b.0 b.1)) b.1) in
          let radius : least_radius b.0 b.1 ≡ r = radius-is b.0 b.1 r (sym (ap (λ v. v.radius) b.2) ∙ er) in
          let close : distance_of found.0.word b.0.word ≤ least_radius b.0 b.1 = leb-true _ _ found.2.0 in
          let first : found.0.word ≡ (node_at ns j).word = found.2.1 ∙ ap (λ i. (node_at ns i).word) found.1 in
          let second : b.0.word ≡ (node_at ns k).word = (b.4.right 0 b.0 (omega arith)).1 ∙ ap (λ i. (node_at ns i).word) b.3 in
          rw (← first, ← second) (omega (arith, close, radius))
    ])

rebuilt-far : (ns ms : List NodeView) (top : ℕ) → IsTree ns → IsRebuilt ns ms top → top < length ns → (k j r : ℕ) (c : HashNo)
    → k < length ms → j < length ms → (node_at ms k).radius ≡ Some r → (node_at ms k).outer ≡ Some c → 1 ≤ times ms c.0 j
    → r < distance_of (node_at ms j).word (node_at ms k).word
rebuilt-far ns ms top T R lt k j r c lk lj er ec has =
    let kn : k < length ns = omega (arith, lk, R.len) in
    let jn : j < length ns = omega (arith, lj, R.len) in
    rw (rebuilt-word ns ms top j T R lt jn, rebuilt-word ns ms top k T R lt kn)
    (elim (eq-zero-or-pos (times ns top k)) [
      | inl out ↦
          let node : node_at ms k ≡ node_at ns k = R.other k kn out in
          let child : (node_at ns k).outer ≡ Some c = sym (ap (λ v. v.outer) node) ∙ ec in
          let same : times ms c.0 j ≡ times ns c.0 j =
          outside-total ns ms (one_at j) top c.0 T R lt (T.linked.later k outward c kn child).1 (child-outside ns top k outward c T lt kn out child) in
          T.cut.far k j r c kn jn (sym (ap (λ v. v.radius) node) ∙ er) child (omega (arith, has, same))
      | inr inside ↦
          let b = built-at ns ms top k T R lt inside in
          let found = below-built outward ns ms b.0 b.1 c j (λ q. nat_lt (least_radius b.0 b.1) (distance_of q.word b.0.word) ≡ true)
          (rebuilt-later ns ms top T R lt) R.len b.4 (sym (ap (λ v. v.outer) b.2) ∙ ec) has
          (filter_passes (λ q. nat_lt (least_radius b.0 b.1) (distance_of q.word b.0.word)) b.1) in
          let radius : least_radius b.0 b.1 ≡ r = radius-is b.0 b.1 r (sym (ap (λ v. v.radius) b.2) ∙ er) in
          let away : least_radius b.0 b.1 < distance_of found.0.word b.0.word = ltb-true _ _ found.2.0 in
          let first : found.0.word ≡ (node_at ns j).word = found.2.1 ∙ ap (λ i. (node_at ns i).word) found.1 in
          let second : b.0.word ≡ (node_at ns k).word = (b.4.right 0 b.0 (omega arith)).1 ∙ ap (λ i. (node_at ns i).word) b.3 in
          rw (← first, ← second) (omega (arith, away, radius))
    ])

bare-built : (s : Side) (p : Point) (qs : List Point) → radius_over p qs ≡ None → first_number (side_part s p qs) ≡ None
bare-built inward p [] e = refl
bare-built outward p [] e = refl
bare-built s p (q ∷ qs) e = absurd cc

rebuilt-bare : (ns ms : List NodeView) (top : ℕ) → IsTree ns → IsRebuilt ns ms top → top < length ns → (k : ℕ) (s : Side) → k < length ms
    → (node_at ms k).radius ≡ None → part s (node_at ms k) ≡ None
rebuilt-bare ns ms top T R lt k s lk none =
    let kn : k < length ns = omega (arith, lk, R.len) in
    elim (eq-zero-or-pos (times ns top k)) [
      | inl out ↦
          let node : node_at ms k ≡ node_at ns k = R.other k kn out in
          ap (part s) node ∙ T.cut.bare k s kn (sym (ap (λ v. v.radius) node) ∙ none)
      | inr has ↦
          let b = built-at ns ms top k T R lt has in
          ap (part s) b.2 ∙ part-built s b.0 b.1 ∙ bare-built s b.0 b.1 (sym (ap (λ v. v.radius) b.2) ∙ none)
    ]

rebuilt-below : (ns ms : List NodeView) (top : ℕ) → IsTree ns → IsRebuilt ns ms top → top < length ns → (k : ℕ) → k < length ms
    → (node_at ms k).below + 1 ≡ size ms k
rebuilt-below ns ms top T R lt k lk =
    let kn : k < length ns = omega (arith, lk, R.len) in
    elim (eq-zero-or-pos (times ns top k)) [
      | inl out ↦ omega (arith, ap (λ v. v.below) (R.other k kn out), T.below k kn, outside-total ns ms (λ _. 1) top k T R lt kn (inl out))
      | inr has ↦
          let b = built-at ns ms top k T R lt has in
          let count : total ms (λ _. 1) b.0.number.0 ≡ sum_by (λ _. 1) (b.0 ∷ b.1) =
          part-total (length (b.0 ∷ b.1)) ns ms (λ _. 1) (b.0 ∷ b.1) (rebuilt-later ns ms top T R lt) R.len b.4 (omega arith) in
          omega (arith, ap (λ v. v.below) b.2, count, ap (size ms) b.3, sum_by-cons (λ _. 1) b.0 b.1, length-sum b.1)
    ]

pub rebuilt-tree : (ns ms : List NodeView) (top : ℕ) → IsTree ns → IsRebuilt ns ms top → top < length ns → IsTree ms
rebuilt-tree ns ms top T R lt = record {
  few = omega (arith, T.few, R.len);
  linked = rebuilt-linked ns ms top T R lt;
  cut = record { near = rebuilt-near ns ms top T R lt; far = rebuilt-far ns ms top T R lt; bare = rebuilt-bare ns ms top T R lt };
  words = λ i k li lk e. T.words i k (omega (arith, li, R.len)) (omega (arith, lk, R.len))
      (sym (rebuilt-word ns ms top i T R lt (omega (arith, li, R.len))) ∙ e ∙ rebuilt-word ns ms top k T R lt (omega (arith, lk, R.len)));
  below = rebuilt-below ns ms top T R lt;
}

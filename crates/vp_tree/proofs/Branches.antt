-- Sums over branches and counts of reads, one node at a time.
use Rattle.std.proofs.Common.{◌≡◌, ◌∙◌, ℕ, zero, suc, ◌+◌, ◌<◌, ◌≤◌, nat_le, nat_lt, Bool, true, false, cond, List, length, Option, Some, None, refl, arith}
use Rattle.std.specs.Option.{option_map_or}
use Rattle.std.proofs.lemmas.Bool.{leb-false, ltb-false}
use Rattle.media_types.specs.Distance.{distance_of}
use Rattle.media_types.specs.declared.hash.Hash64.{Hash64}
use Rattle.media_types.specs.declared.numbers.HashNo.{HashNo}
use Rattle.vp_tree.specs.declared.node.NodeView.{NodeView}
use Rattle.vp_tree.specs.Nodes.{node_at, at_part, total_in, total, one_at, times}
use Rattle.vp_tree.specs.Searching.{opens_inner, opens_outer, open_inner, open_outer, reads_in}
use Rattle.vp_tree.specs.Shape.{inward, outward, part, ComeLater, IsTree}
use Rattle.media_types.specs.DistanceLaws.{distance_of-sym, triangle}

pub at_part-same : (o : Option HashNo) (F G : ℕ → ℕ) → ((c : HashNo) → o ≡ Some c → F c.0 ≡ G c.0) → at_part o F ≡ at_part o G
at_part-same None F G h = refl
at_part-same (Some c) F G h = h c refl

pub at_part-none : (o : Option HashNo) (F : ℕ → ℕ) → ((c : HashNo) → o ≡ Some c → F c.0 ≡ 0) → at_part o F ≡ 0
at_part-none None F h = refl
at_part-none (Some c) F h = h c refl

sums-same : (a b c d e : ℕ) → b ≡ d → c ≡ e → a + (b + c) ≡ a + (d + e)
sums-same a b c d e p q = rw (p, q) refl

-- as many levels as are left give the whole branch
total_in-same : (f h : ℕ) (ns : List NodeView) (g : ℕ → ℕ) (k : ℕ) → ComeLater ns → k < length ns
    → length ns ≤ f + k → length ns ≤ h + k → total_in f ns g k ≡ total_in h ns g k
total_in-same zero h ns g k L lt p q = absurd (omega (arith, lt, p))
total_in-same (suc f) zero ns g k L lt p q = absurd (omega (arith, lt, q))
total_in-same (suc f) (suc h) ns g k L lt p q =
    sums-same (g k) _ _ _ _
    (at_part-same (node_at ns k).inner (total_in f ns g) (total_in h ns g) (λ c e. let l : (k < c.0) × (c.0 < length ns) = L k inward c lt e in total_in-same f h ns g c.0 L l.1 (omega (arith, l.0, p)) (omega (arith, l.0, q))))
    (at_part-same (node_at ns k).outer (total_in f ns g) (total_in h ns g) (λ c e. let l : (k < c.0) × (c.0 < length ns) = L k outward c lt e in total_in-same f h ns g c.0 L l.1 (omega (arith, l.0, p)) (omega (arith, l.0, q))))

total_in-step : (f : ℕ) (ns : List NodeView) (g : ℕ → ℕ) (k : ℕ) → ComeLater ns → k < length ns → length ns ≤ f
    → total_in f ns g k ≡ g k + (at_part (node_at ns k).inner (total_in f ns g) + at_part (node_at ns k).outer (total_in f ns g))
total_in-step zero ns g k L lt p = absurd (omega (arith, lt, p))
total_in-step (suc f) ns g k L lt p =
    sums-same (g k) _ _ _ _
    (at_part-same (node_at ns k).inner (total_in f ns g) (total_in (suc f) ns g) (λ c e. let l : (k < c.0) × (c.0 < length ns) = L k inward c lt e in total_in-same f (suc f) ns g c.0 L l.1 (omega (arith, l.0, p)) (omega (arith, l.0, p))))
    (at_part-same (node_at ns k).outer (total_in f ns g) (total_in (suc f) ns g) (λ c e. let l : (k < c.0) × (c.0 < length ns) = L k outward c lt e in total_in-same f (suc f) ns g c.0 L l.1 (omega (arith, l.0, p)) (omega (arith, l.0, p))))

-- a branch is its node and the branches of its two parts
pub total-step : (ns : List NodeView) (g : ℕ → ℕ) (k : ℕ) → ComeLater ns → k < length ns
    → total ns g k ≡ g k + (at_part (node_at ns k).inner (total ns g) + at_part (node_at ns k).outer (total ns g))
total-step ns g k L lt = total_in-step (length ns) ns g k L lt (omega arith)

-- what is open is there
open-there : (b : Bool) (o : Option HashNo) (c : HashNo) → cond b o None ≡ Some c → o ≡ Some c
open-there true o c e = e
open-there false o c e = cc

pub open_inner-there : (node : NodeView) (q : Hash64) (w : ℕ) (c : HashNo) → open_inner node q w ≡ Some c → part inward node ≡ Some c
open_inner-there node q w c e = open-there (opens_inner node q w) node.inner c e

pub open_outer-there : (node : NodeView) (q : Hash64) (w : ℕ) (c : HashNo) → open_outer node q w ≡ Some c → part outward node ≡ Some c
open_outer-there node q w c e = open-there (opens_outer node q w) node.outer c e

reads_in-same : (f h : ℕ) (ns : List NodeView) (q : Hash64) (w k : ℕ) → ComeLater ns → k < length ns
    → length ns ≤ f + k → length ns ≤ h + k → reads_in f ns q w k ≡ reads_in h ns q w k
reads_in-same zero h ns q w k L lt p r = absurd (omega (arith, lt, p))
reads_in-same (suc f) zero ns q w k L lt p r = absurd (omega (arith, lt, r))
reads_in-same (suc f) (suc h) ns q w k L lt p r =
    sums-same 1 _ _ _ _
    (at_part-same (open_inner (node_at ns k) q w) (reads_in f ns q w) (reads_in h ns q w) (λ c e. let l : (k < c.0) × (c.0 < length ns) = L k inward c lt (open_inner-there (node_at ns k) q w c e) in reads_in-same f h ns q w c.0 L l.1 (omega (arith, l.0, p)) (omega (arith, l.0, r))))
    (at_part-same (open_outer (node_at ns k) q w) (reads_in f ns q w) (reads_in h ns q w) (λ c e. let l : (k < c.0) × (c.0 < length ns) = L k outward c lt (open_outer-there (node_at ns k) q w c e) in reads_in-same f h ns q w c.0 L l.1 (omega (arith, l.0, p)) (omega (arith, l.0, r))))

reads_in-step : (f : ℕ) (ns : List NodeView) (q : Hash64) (w k : ℕ) → ComeLater ns → k < length ns → length ns ≤ f
    → reads_in f ns q w k ≡ 1 + (at_part (open_inner (node_at ns k) q w) (reads_in f ns q w) + at_part (open_outer (node_at ns k) q w) (reads_in f ns q w))
reads_in-step zero ns q w k L lt p = absurd (omega (arith, lt, p))
reads_in-step (suc f) ns q w k L lt p =
    sums-same 1 _ _ _ _
    (at_part-same (open_inner (node_at ns k) q w) (reads_in f ns q w) (reads_in (suc f) ns q w) (λ c e. let l : (k < c.0) × (c.0 < length ns) = L k inward c lt (open_inner-there (node_at ns k) q w c e) in reads_in-same f (suc f) ns q w c.0 L l.1 (omega (arith, l.0, p)) (omega (arith, l.0, p))))
    (at_part-same (open_outer (node_at ns k) q w) (reads_in f ns q w) (reads_in (suc f) ns q w) (λ c e. let l : (k < c.0) × (c.0 < length ns) = L k outward c lt (open_outer-there (node_at ns k) q w c e) in reads_in-same f (suc f) ns q w c.0 L l.1 (omega (arith, l.0, p)) (omega (arith, l.0, p))))

-- a read of a branch is one of its node and those of the parts that are open
pub reads-step : (ns : List NodeView) (q : Hash64) (w k : ℕ) → ComeLater ns → k < length ns
    → reads_in (length ns) ns q w k
    ≡ 1 + (at_part (open_inner (node_at ns k) q w) (reads_in (length ns) ns q w) + at_part (open_outer (node_at ns k) q w) (reads_in (length ns) ns q w))
reads-step ns q w k L lt = reads_in-step (length ns) ns q w k L lt (omega arith)

-- a part that is shut has no hit
inner-shut : (ns : List NodeView) (k j : ℕ) (q : Hash64) (w : ℕ) (o : Option ℕ) (c : HashNo) → IsTree ns → k < length ns → j < length ns
    → distance_of q (node_at ns j).word ≤ w → (node_at ns k).radius ≡ o → (node_at ns k).inner ≡ Some c
    → option_map_or (λ r. nat_le (distance_of q (node_at ns k).word) (r + w)) o false ≡ false → 1 ≤ times ns c.0 j → ⊥
inner-shut ns k j q w None c T kn jn near er ei shut there =
    let none : (node_at ns k).inner ≡ None = T.cut.bare k inward kn er in
    cc
inner-shut ns k j q w (Some r) c T kn jn near er ei shut there =
    let cut : distance_of (node_at ns j).word (node_at ns k).word ≤ r = T.cut.near k j r c kn jn er ei there in
    let tri : distance_of q (node_at ns k).word ≤ distance_of q (node_at ns j).word + distance_of (node_at ns j).word (node_at ns k).word = triangle q (node_at ns j).word (node_at ns k).word in
    let le : distance_of q (node_at ns k).word ≤ r + w = omega (arith, cut, tri, near) in
    omega (arith, leb-false (distance_of q (node_at ns k).word) (r + w) shut, le)

outer-shut : (ns : List NodeView) (k j : ℕ) (q : Hash64) (w : ℕ) (o : Option ℕ) (c : HashNo) → IsTree ns → k < length ns → j < length ns
    → distance_of q (node_at ns j).word ≤ w → (node_at ns k).radius ≡ o → (node_at ns k).outer ≡ Some c
    → option_map_or (λ r. nat_lt r (distance_of q (node_at ns k).word + w)) o false ≡ false → 1 ≤ times ns c.0 j → ⊥
outer-shut ns k j q w None c T kn jn near er ei shut there =
    let none : (node_at ns k).outer ≡ None = T.cut.bare k outward kn er in
    cc
outer-shut ns k j q w (Some r) c T kn jn near er ei shut there =
    let cut : r < distance_of (node_at ns j).word (node_at ns k).word = T.cut.far k j r c kn jn er ei there in
    let tri : distance_of (node_at ns j).word (node_at ns k).word ≤ distance_of (node_at ns j).word q + distance_of q (node_at ns k).word = triangle (node_at ns j).word q (node_at ns k).word in
    let swap : distance_of (node_at ns j).word q ≡ distance_of q (node_at ns j).word = distance_of-sym (node_at ns j).word q in
    let lt : r < distance_of q (node_at ns k).word + w = omega (arith, cut, tri, near, swap) in
    omega (arith, ltb-false r (distance_of q (node_at ns k).word + w) shut, lt)

kept-if : (b : Bool) (o : Option HashNo) (F : ℕ → ℕ) → (b ≡ false → at_part o F ≡ 0) → at_part o F ≡ at_part (cond b o None) F
kept-if true o F h = refl
kept-if false o F h = h refl

pub none_if : (n : ℕ) → (1 ≤ n → ⊥) → n ≡ 0
none_if zero h = refl
none_if (suc n) h = absurd (h (omega arith))

-- a hit of a branch is its node or lies in a part that is open
pub times-open : (ns : List NodeView) (k j : ℕ) (q : Hash64) (w : ℕ) → IsTree ns → k < length ns → j < length ns
    → distance_of q (node_at ns j).word ≤ w
    → times ns k j ≡ one_at j k + (at_part (open_inner (node_at ns k) q w) (λ i. times ns i j) + at_part (open_outer (node_at ns k) q w) (λ i. times ns i j))
times-open ns k j q w T kn jn near =
    total-step ns (one_at j) k T.linked.later kn
    ∙ sums-same (one_at j k) _ _ _ _
    (kept-if (opens_inner (node_at ns k) q w) (node_at ns k).inner (λ i. times ns i j)
    (λ shut. at_part-none (node_at ns k).inner (λ i. times ns i j) (λ c e. none_if (times ns c.0 j) (inner-shut ns k j q w (node_at ns k).radius c T kn jn near refl e shut))))
    (kept-if (opens_outer (node_at ns k) q w) (node_at ns k).outer (λ i. times ns i j)
    (λ shut. at_part-none (node_at ns k).outer (λ i. times ns i j) (λ c e. none_if (times ns c.0 j) (outer-shut ns k j q w (node_at ns k).radius c T kn jn near refl e shut))))

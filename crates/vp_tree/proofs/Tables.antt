-- The two tables joined row by row.
use Rattle.std.proofs.Common.{◌≡◌, ℕ, zero, suc, List, [], ◌∷◌, ◌++◌, length, Some, slice_get, refl, ap, arith}
use Rattle.std.proofs.Math.ListN.{set}
use Rattle.vp_tree.specs.declared.node.Node.{Node}
use Rattle.vp_tree.specs.declared.node.Counts.{Counts}
use Rattle.vp_tree.specs.Nodes.{node_at}
use Rattle.vp_tree.specs.Stored.{joined, searched, seen}

pub length-joined : (ns : List Node) (cs : List Counts) → length cs ≡ length ns → length (joined ns cs) ≡ length ns
length-joined [] cs e = refl
length-joined (n ∷ ns) [] e = absurd (omega (arith, e))
length-joined (n ∷ ns) (c ∷ cs) e = ap suc (length-joined ns cs (omega (arith, e)))

pub node_at-joined : (ns : List Node) (cs : List Counts) (k : ℕ) (n : Node) (c : Counts) → slice_get ns k ≡ Some n → slice_get cs k ≡ Some c → node_at (joined ns cs) k ≡ seen n c
node_at-joined [] cs k n c node counts = absurd (cc)
node_at-joined (m ∷ ns) [] k n c node counts = absurd (cc)
node_at-joined (m ∷ ns) (d ∷ cs) zero n c node counts = let same : m ≡ n = cc in let also : d ≡ c = cc in λ i. seen (same i) (also i)
node_at-joined (m ∷ ns) (d ∷ cs) (suc k) n c node counts = node_at-joined ns cs k n c node counts

-- the counts of one node are written over
pub joined-counts : (ns : List Node) (cs : List Counts) (k : ℕ) (n : Node) (c : Counts) → slice_get ns k ≡ Some n → joined ns (set cs k c) ≡ set (joined ns cs) k (seen n c)
joined-counts [] cs k n c node = absurd (cc)
joined-counts (m ∷ ns) [] k n c node = refl
joined-counts (m ∷ ns) (d ∷ cs) zero n c node = let same : m ≡ n = cc in ap (λ v. seen v c ∷ joined ns cs) same
joined-counts (m ∷ ns) (d ∷ cs) (suc k) n c node = ap (λ xs. seen m d ∷ xs) (joined-counts ns cs k n c node)

pub set-twice : {X : Type 0} (xs : List X) (k : ℕ) (x y : X) → set (set xs k x) k y ≡ set xs k y
set-twice [] k x y = refl
set-twice (z ∷ xs) zero x y = refl
set-twice (z ∷ xs) (suc k) x y = ap (λ rest. z ∷ rest) (set-twice xs k x y)

-- a node that is there has what a search reads of it
pub node_there : (ns : List Node) (cs : List Counts) (k : ℕ) (n : Node) → length cs ≡ length ns → slice_get ns k ≡ Some n → searched (node_at (joined ns cs) k) ≡ n
node_there [] cs k n e node = absurd (cc)
node_there (m ∷ ns) [] k n e node = absurd (omega arith)
node_there (m ∷ ns) (d ∷ cs) zero n e node = cc
node_there (m ∷ ns) (d ∷ cs) (suc k) n e node = node_there ns cs k n (omega (arith, e)) node

-- and its count of the points below it
pub below_there : (ns : List Node) (cs : List Counts) (k : ℕ) (c : Counts) → length cs ≡ length ns → slice_get cs k ≡ Some c → (node_at (joined ns cs) k).below ≡ c.below
below_there [] [] k c e counts = absurd (cc)
below_there [] (d ∷ cs) k c e counts = absurd (omega (arith, e))
below_there (m ∷ ns) [] k c e counts = absurd (cc)
below_there (m ∷ ns) (d ∷ cs) zero c e counts = let same : d ≡ c = cc in ap (λ (v : Counts). v.below) same
below_there (m ∷ ns) (d ∷ cs) (suc k) c e counts = below_there ns cs k c (omega (arith, e)) counts

pub joined-push : (ns : List Node) (cs : List Counts) (n : Node) (c : Counts) → length cs ≡ length ns
    → joined (ns ++ n ∷ []) (cs ++ c ∷ []) ≡ joined ns cs ++ seen n c ∷ []
joined-push [] [] n c e = refl
joined-push [] (d ∷ cs) n c e = absurd (omega (arith, e))
joined-push (m ∷ ns) [] n c e = absurd (omega (arith, e))
joined-push (m ∷ ns) (d ∷ cs) n c e = ap (λ xs. seen m d ∷ xs) (joined-push ns cs n c (omega (arith, e)))

pub joined-set : (ns : List Node) (cs : List Counts) (k : ℕ) (n : Node) (c : Counts) → length cs ≡ length ns
    → joined (set ns k n) (set cs k c) ≡ set (joined ns cs) k (seen n c)
joined-set [] [] k n c e = refl
joined-set [] (d ∷ cs) k n c e = absurd (omega (arith, e))
joined-set (m ∷ ns) [] k n c e = absurd (omega (arith, e))
joined-set (m ∷ ns) (d ∷ cs) zero n c e = refl
joined-set (m ∷ ns) (d ∷ cs) (suc k) n c e = ap (λ xs. seen m d ∷ xs) (joined-set ns cs k n c (omega (arith, e)))

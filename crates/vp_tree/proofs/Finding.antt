-- A search under way: what it has found, and the branches that it is still to read.
use Rattle.std.proofs.Common.{◌≡◌, ℕ, ◌+◌, ◌<◌, ◌≤◌, nat_le, Bool, true, false, cond, List, [], ◌∷◌, ◌++◌, length, sum_by, All, Option, Some, None, refl, ap, inl, inr, arith}
use Rattle.std.specs.Option.{option_to_list}
use Rattle.std.proofs.lemmas.Bool.{leb-false, leb-true}
use Rattle.std.proofs.lemmas.Bool.Decides.{eqb_tells}
use Rattle.std.proofs.lemmas.List.{nil_from_length}
use Rattle.std.proofs.lemmas.List.Elements.{All-append, All-cons, All-nil, All-pop}
use Rattle.std.proofs.lemmas.List.Sums.{sum_by-append, sum_by_push}
use Rattle.media_types.specs.Distance.{distance_of}
use Rattle.media_types.specs.declared.hash.Hash64.{Hash64}
use Rattle.media_types.specs.declared.numbers.HashNo.{HashNo}
use Rattle.vp_tree.specs.declared.node.NodeView.{NodeView}
use Rattle.vp_tree.specs.Nodes.{node_at, at_part, one_at, times}
use Rattle.vp_tree.specs.Searching.{hit, open_inner, open_outer, reads_in}
use Rattle.vp_tree.specs.Shape.{inward, outward, IsTree}
use Rattle.vp_tree.proofs.Branches.{open_inner-there, open_outer-there, reads-step, times-open}

-- each word that is to be found has been found, or lies in just one of the branches on the stack
pub record IsSearching (ns : List NodeView) (q : Hash64) (w : ℕ) (hits : List (HashNo × ℕ)) (stack : List HashNo) : Type 0 where
  pub inside : All (λ s. s.0 < length ns) stack
  pub right : All (λ h. (h.0.0 < length ns) × (h ≡ hit ns q h.0.0) × (h.1 ≤ w)) hits
  pub each : (j : ℕ) → j < length ns → distance_of q (node_at ns j).word ≤ w
      → sum_by (λ h. one_at j h.0.0) hits + sum_by (λ s. times ns s.0 j) stack ≡ 1

at_part-sum : (o : Option HashNo) (F : ℕ → ℕ) → at_part o F ≡ sum_by (λ s. F s.0) (option_to_list o)
at_part-sum None F = refl
at_part-sum (Some c) F = omega arith

pub sum-put : (F : ℕ → ℕ) (stack : List HashNo) (a b : Option HashNo)
    → sum_by (λ s. F s.0) (stack ++ option_to_list a ++ option_to_list b) ≡ sum_by (λ s. F s.0) stack + (at_part a F + at_part b F)
sum-put F stack a b =
    omega (arith, sum_by-append (λ s. F s.0) (stack ++ option_to_list a) (option_to_list b), sum_by-append (λ s. F s.0) stack (option_to_list a), at_part-sum a F, at_part-sum b F)

-- a branch was taken from the stack, and the open parts of its node were put: one read fewer is left
pub reads-taken : (ns : List NodeView) (q : Hash64) (w : ℕ) (old rest new : List HashNo) (at : HashNo) → IsTree ns → at.0 < length ns
    → old ≡ rest ++ at ∷ []
    → new ≡ rest ++ option_to_list (open_inner (node_at ns at.0) q w) ++ option_to_list (open_outer (node_at ns at.0) q w)
    → sum_by (λ s. reads_in (length ns) ns q w s.0) old ≡ 1 + sum_by (λ s. reads_in (length ns) ns q w s.0) new
reads-taken ns q w old rest new at T lt taken put =
    rw (taken, put)
    (omega (
      arith,
      sum_by_push (λ s. reads_in (length ns) ns q w s.0) rest at,
      sum-put (reads_in (length ns) ns q w) rest (open_inner (node_at ns at.0) q w) (open_outer (node_at ns at.0) q w),
      reads-step ns q w at.0 T.linked.later lt,
    ))

-- where a branch is on the stack, a read is left
pub read-left : (ns : List NodeView) (q : Hash64) (w : ℕ) (old rest : List HashNo) (at : HashNo) → IsTree ns → at.0 < length ns
    → old ≡ rest ++ at ∷ [] → 1 ≤ sum_by (λ s. reads_in (length ns) ns q w s.0) old
read-left ns q w old rest at T lt taken = omega (arith, reads-taken ns q w old rest _ at T lt taken refl)

pub All-one : {X : Type 0} (P : X → Type 0) (x : X) → P x → All P (x ∷ [])
All-one P x h = All-cons P x [] h (All-nil P)

pub All-option : (P : HashNo → Type 0) (o : Option HashNo) → ((c : HashNo) → o ≡ Some c → P c) → All P (option_to_list o)
All-option P None h = λ k d lt. absurd (omega (arith, lt))
All-option P (Some c) h = All-one P c (h c refl)

hits_if-right : (b : Bool) (ns : List NodeView) (q : Hash64) (w k : ℕ) (hits : List (HashNo × ℕ)) → nat_le (hit ns q k).1 w ≡ b → k < length ns
    → All (λ h. (h.0.0 < length ns) × (h ≡ hit ns q h.0.0) × (h.1 ≤ w)) hits
    → All (λ h. (h.0.0 < length ns) × (h ≡ hit ns q h.0.0) × (h.1 ≤ w)) (cond b (hits ++ hit ns q k ∷ []) hits)
hits_if-right true ns q w k hits e lt h =
    let near : (hit ns q k).1 ≤ w = leb-true (hit ns q k).1 w e in
    All-append (λ h. (h.0.0 < length ns) × (h ≡ hit ns q h.0.0) × (h.1 ≤ w)) hits (hit ns q k ∷ []) h
    (All-one (λ h. (h.0.0 < length ns) × (h ≡ hit ns q h.0.0) × (h.1 ≤ w)) (hit ns q k) (lt, refl, near))
hits_if-right false ns q w k hits e lt h = h

other_node : (ns : List NodeView) (q : Hash64) (w k j : ℕ) → nat_le (hit ns q k).1 w ≡ false
    → distance_of q (node_at ns j).word ≤ w → one_at j k ≡ 0
other_node ns q w k j e near =
    elim (eqb_tells k j) [
      | inl same ↦ absurd (omega (arith, leb-false (hit ns q k).1 w e, near, ap (λ i. distance_of q (node_at ns i).word) same.1))
      | inr other ↦ rw other.0 refl
    ]

-- a node that is one to be found is found, and any other changes no count of those
hits_if-each : (b : Bool) (ns : List NodeView) (q : Hash64) (w k j : ℕ) (hits : List (HashNo × ℕ)) → nat_le (hit ns q k).1 w ≡ b
    → distance_of q (node_at ns j).word ≤ w
    → sum_by (λ h. one_at j h.0.0) (cond b (hits ++ hit ns q k ∷ []) hits) ≡ sum_by (λ h. one_at j h.0.0) hits + one_at j k
hits_if-each true ns q w k j hits e near = omega (arith, sum_by-append (λ h. one_at j h.0.0) hits (hit ns q k ∷ []))
hits_if-each false ns q w k j hits e near =
    let other : one_at j k ≡ 0 = other_node ns q w k j e near in
    omega (arith, other)

pub taken-inside : (ns : List NodeView) (q : Hash64) (w : ℕ) (hits : List (HashNo × ℕ)) (stack : List HashNo) (at : HashNo)
    → IsSearching ns q w hits (stack ++ at ∷ []) → at.0 < length ns
taken-inside ns q w hits stack at h = (All-pop (λ s. s.0 < length ns) (stack ++ at ∷ []) stack (Some at) refl h.inside).1

pub searching-done : (ns : List NodeView) (q : Hash64) (w : ℕ) (hits : List (HashNo × ℕ)) (stack : List HashNo) → length stack ≡ 0
    → IsSearching ns q w hits stack → IsSearching ns q w hits []
searching-done ns q w hits stack e h = rw (nil_from_length stack e) at h

pub searching-more : (ns : List NodeView) (q : Hash64) (w : ℕ) (hits : List (HashNo × ℕ)) (stack : List HashNo) (at : HashNo) → IsTree ns
    → IsSearching ns q w hits (stack ++ at ∷ [])
    → IsSearching ns q w (cond (nat_le (hit ns q at.0).1 w) (hits ++ hit ns q at.0 ∷ []) hits)
    (stack ++ option_to_list (open_inner (node_at ns at.0) q w) ++ option_to_list (open_outer (node_at ns at.0) q w))
searching-more ns q w hits stack at T h =
    let lt : at.0 < length ns = (All-pop (λ s. s.0 < length ns) (stack ++ at ∷ []) stack (Some at) refl h.inside).1 in
    let node : NodeView = node_at ns at.0 in
    record {
      inside = All-append (λ s. s.0 < length ns) (stack ++ option_to_list (open_inner node q w)) (option_to_list (open_outer node q w))
          (All-append (λ s. s.0 < length ns) stack (option_to_list (open_inner node q w)) (All-pop (λ s. s.0 < length ns) (stack ++ at ∷ []) stack (Some at) refl h.inside).0
          (All-option (λ s. s.0 < length ns) (open_inner node q w) (λ c e. (T.linked.later at.0 inward c lt (open_inner-there node q w c e)).1)))
          (All-option (λ s. s.0 < length ns) (open_outer node q w) (λ c e. (T.linked.later at.0 outward c lt (open_outer-there node q w c e)).1));
      right = hits_if-right (nat_le (hit ns q at.0).1 w) ns q w at.0 hits refl lt h.right;
      each = λ j jn near. omega (
        arith,
        h.each j jn near,
        hits_if-each (nat_le (hit ns q at.0).1 w) ns q w at.0 j hits refl near,
        sum_by_push (λ s. times ns s.0 j) stack at,
        sum-put (λ i. times ns i j) stack (open_inner node q w) (open_outer node q w),
        times-open ns at.0 j q w T lt jn near,
      );
    }

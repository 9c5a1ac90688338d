-- An insertion under way: the nodes on the way up to the next one have grown.
use Rattle.std.proofs.Common.{◌≡◌, ◌∙◌, ℕ, ◌-◌, ◌<◌, ◌≤◌, ◌==◌, true, false, cond, List, ◌∷◌, length, Option, Some, None, refl, sym, ap, inl, inr, arith}
use Rattle.std.specs.Option.{option_map_or}
use Rattle.std.proofs.Math.ListN.{set}
use Rattle.std.proofs.lemmas.Bool.{or_right, false_from_ne_true}
use Rattle.std.proofs.lemmas.Bool.Decides.{eqb_tells}
use Rattle.std.proofs.lemmas.List.{get_or-set_same, get_or-set_other, length-set}
use Rattle.media_types.specs.declared.hash.Hash64.{Hash64}
use Rattle.media_types.specs.declared.numbers.HashNo.{HashNo}
use Rattle.vp_tree.specs.declared.node.NodeView.{NodeView}
use Rattle.vp_tree.specs.Nodes.{leaf, node_at, size}
use Rattle.vp_tree.specs.Placing.{next_of, way, is_on, grown}
use Rattle.vp_tree.specs.Shape.{IsTree, Side, part}
use Rattle.vp_tree.proofs.Times.{child-le}
use Rattle.vp_tree.proofs.Ways.{left_way, next-later, way-step, way_in-after, on_rest, on_first, next_from-there}

pub record IsGrowing (ns : List NodeView) (number : HashNo) (w : Hash64) (rows : List NodeView) (next : Option HashNo) : Type 0 where
  pub len : length rows ≡ length ns
  pub inside : (c : HashNo) → next ≡ Some c → (c.0 < length ns) × (size ns c.0 ≤ length ns)
  pub on : (k : ℕ) → is_on (left_way ns w next) k ≡ true → is_on (way ns w) k ≡ true
  pub each : (k : ℕ) → k < length ns
      → node_at rows k ≡ cond (is_on (left_way ns w next) k) (node_at ns k) (cond (is_on (way ns w) k) (grown number w (node_at ns k)) (node_at ns k))

next-size : (ns : List NodeView) (w : Hash64) (k : ℕ) (c : HashNo) → IsTree ns → k < length ns → next_of (node_at ns k) w ≡ Some c → size ns c.0 ≤ size ns k
next-size ns w k c T lt e =
    let there : (s : Side) × (part s (node_at ns k) ≡ Some c) = next_from-there (node_at ns k).radius (node_at ns k) w c e in
    child-le ns (λ _. 1) k there.0 c T.linked.later lt there.1

later_way : (ns : List NodeView) (w : Hash64) (k : ℕ) (next : Option HashNo) → IsTree ns
    → ((c : HashNo) → next ≡ Some c → (k < c.0) × (c.0 < length ns)) → is_on (left_way ns w next) k ≡ false
later_way ns w k None T h = refl
later_way ns w k (Some c) T h =
    false_from_ne_true (is_on (left_way ns w (Some c)) k) (λ on. let after : (c.0 ≤ k) × (k < length ns) = way_in-after (length ns) ns w c.0 k T.linked.later (h c refl).1 on in omega (arith, after.0, (h c refl).0))

-- the node that is read is still as it was
pub growing-node : (ns : List NodeView) (number : HashNo) (w : Hash64) (rows : List NodeView) (at : HashNo) → IsTree ns
    → IsGrowing ns number w rows (Some at) → node_at rows at.0 ≡ node_at ns at.0
growing-node ns number w rows at T G =
    let lt : at.0 < length ns = (G.inside at refl).0 in
    let first : is_on (left_way ns w (Some at)) at.0 ≡ true =
    ap (λ ks. is_on ks at.0) (way-step ns w at.0 T.linked.later lt) ∙ on_first at.0 (left_way ns w (next_of (node_at ns at.0) w)) in
    G.each at.0 lt ∙ ap (λ b. cond b (node_at ns at.0) (cond (is_on (way ns w) at.0) (grown number w (node_at ns at.0)) (node_at ns at.0))) first

same_node : (ns : List NodeView) (number : HashNo) (w : Hash64) (rows : List NodeView) (at : HashNo) (k : ℕ) → IsTree ns
    → IsGrowing ns number w rows (Some at) → at.0 < length ns → at.0 ≡ k
    → node_at (set rows at.0 (grown number w (node_at ns at.0))) k
    ≡ cond (is_on (left_way ns w (next_of (node_at ns at.0) w)) k) (node_at ns k) (cond (is_on (way ns w) k) (grown number w (node_at ns k)) (node_at ns k))
same_node ns number w rows at k T G lt same =
    let off : is_on (left_way ns w (next_of (node_at ns at.0) w)) at.0 ≡ false =
    later_way ns w at.0 (next_of (node_at ns at.0) w) T (λ c e. next-later ns w at.0 c T.linked.later lt e) in
    let on : is_on (way ns w) at.0 ≡ true =
    G.on at.0 (ap (λ ks. is_on ks at.0) (way-step ns w at.0 T.linked.later lt) ∙ on_first at.0 (left_way ns w (next_of (node_at ns at.0) w))) in
    rw (← same) (rw (off, on) (get_or-set_same rows at.0 (grown number w (node_at ns at.0)) (leaf (record { 0 = 0 })) (omega (arith, lt, G.len))))

-- one node more has grown
pub growing-more : (ns : List NodeView) (number : HashNo) (w : Hash64) (rows : List NodeView) (at : HashNo) → IsTree ns
    → IsGrowing ns number w rows (Some at)
    → IsGrowing ns number w (set rows at.0 (grown number w (node_at ns at.0))) (next_of (node_at ns at.0) w)
growing-more ns number w rows at T G =
    let lt : at.0 < length ns = (G.inside at refl).0 in
    let step : left_way ns w (Some at) ≡ at.0 ∷ left_way ns w (next_of (node_at ns at.0) w) = way-step ns w at.0 T.linked.later lt in
    record {
      len = length-set rows at.0 (grown number w (node_at ns at.0)) ∙ G.len;
      inside = λ c e. ((next-later ns w at.0 c T.linked.later lt e).1, omega (arith, next-size ns w at.0 c T lt e, (G.inside at refl).1));
      on = λ k h. G.on k (ap (λ ks. is_on ks k) step ∙ or_right (at.0 == k) (is_on (left_way ns w (next_of (node_at ns at.0) w)) k) h);
      each = λ k kn. elim (eqb_tells at.0 k) [
        | inl same ↦ same_node ns number w rows at k T G lt same.1
        | inr other ↦
            get_or-set_other rows at.0 k (grown number w (node_at ns at.0)) (leaf (record { 0 = 0 })) (λ e. other.1 (sym e))
            ∙ G.each k kn
            ∙ ap (λ b. cond b (node_at ns k) (cond (is_on (way ns w) k) (grown number w (node_at ns k)) (node_at ns k)))
            (ap (λ ks. is_on ks k) step ∙ on_rest at.0 k (left_way ns w (next_of (node_at ns at.0) w)) other.1)
      ];
    }

pub fewer-left : (n at : ℕ) (next : Option HashNo) → at < n → ((c : HashNo) → next ≡ Some c → (at < c.0) × (c.0 < n))
    → option_map_or (λ (c : HashNo). n - c.0) next 0 < n - at
fewer-left n at None lt h = omega arith
fewer-left n at (Some c) lt h = omega (arith, (h c refl).0, (h c refl).1)

-- Where the root's branch has each node once, no node hangs in two places.
use Rattle.std.proofs.Common.{◌≡◌, ◌≢◌, ◌∙◌, ℕ, zero, suc, ◌+◌, ◌<◌, ◌≤◌, List, length, Some, refl, sym, ap, inl, inr, arith}
use Rattle.std.proofs.lemmas.Bool.Decides.{eqb_tells}
use Rattle.media_types.specs.declared.numbers.HashNo.{HashNo}
use Rattle.vp_tree.specs.declared.node.NodeView.{NodeView}
use Rattle.vp_tree.specs.Nodes.{node_at, at_part, one_at, total, times}
use Rattle.vp_tree.specs.Shape.{Side, inward, outward, part, ComeLater}
use Rattle.vp_tree.proofs.Branches.{total-step}
use Rattle.vp_tree.proofs.Sorting.{one_at-other, one_at-same}
use Rattle.vp_tree.proofs.Times.{total-add, total-le, at_part-add}

-- on how many sides of a node a number hangs
abbrev hangs : List NodeView → ℕ → ℕ → ℕ
hangs ns c k = at_part (node_at ns k).inner (one_at c) + at_part (node_at ns k).outer (one_at c)

-- a branch has a number as often as it hangs at its nodes, and once more where it is the first
hangs-total : (m : ℕ) (ns : List NodeView) (c k : ℕ) → ComeLater ns → k < length ns → length ns ≤ m + k
    → total ns (hangs ns c) k + one_at c k ≡ times ns k c
hangs-total zero ns c k L lt q = absurd (omega (arith, lt, q))
hangs-total (suc m) ns c k L lt q =
    let child : (s : Side) (d : HashNo) → part s (node_at ns k) ≡ Some d → times ns d.0 c ≡ total ns (hangs ns c) d.0 + one_at c d.0 =
    λ s d e. let l : (k < d.0) × (d.0 < length ns) = L k s d lt e in sym (hangs-total m ns c d.0 L l.1 (omega (arith, l.0, q))) in
    omega (
      arith,
      total-step ns (hangs ns c) k L lt,
      total-step ns (one_at c) k L lt,
      at_part-add (node_at ns k).inner (total ns (one_at c)) (total ns (hangs ns c)) (one_at c) (child inward),
      at_part-add (node_at ns k).outer (total ns (one_at c)) (total ns (hangs ns c)) (one_at c) (child outward),
    )

hangs-here : (s : Side) (ns : List NodeView) (c : HashNo) (k : ℕ) → part s (node_at ns k) ≡ Some c → 1 ≤ hangs ns c.0 k
hangs-here inward ns c k e = omega (arith, ap (λ o. at_part o (one_at c.0)) e, one_at-same c.0)
hangs-here outward ns c k e = omega (arith, ap (λ o. at_part o (one_at c.0)) e, one_at-same c.0)

hangs-twice : (ns : List NodeView) (c : HashNo) (k : ℕ) → part inward (node_at ns k) ≡ Some c → part outward (node_at ns k) ≡ Some c → 2 ≤ hangs ns c.0 k
hangs-twice ns c k e f =
    omega (arith, ap (λ o. at_part o (one_at c.0)) e, ap (λ o. at_part o (one_at c.0)) f, one_at-same c.0)

-- two places of one number are two too many
two-places : (ns : List NodeView) (c i k : ℕ) → ComeLater ns → ((j : ℕ) → j < length ns → times ns 0 j ≡ 1) → c < length ns → i < length ns → k < length ns
    → ((j : ℕ) → one_at i j + one_at k j ≤ hangs ns c j) → ⊥
two-places ns c i k L once lc li lk le =
    let sum : total ns (λ j. one_at i j + one_at k j) 0 ≤ total ns (hangs ns c) 0 = total-le ns (λ j. one_at i j + one_at k j) (hangs ns c) 0 le in
    omega (arith, sum, total-add ns (one_at i) (one_at k) 0, once i li, once k lk, once c lc, hangs-total (length ns) ns c 0 L (omega (arith, li)) (omega arith))

apart-le : (h : ℕ → ℕ) (i k j : ℕ) → i ≢ k → 1 ≤ h i → 1 ≤ h k → one_at i j + one_at k j ≤ h j
apart-le h i k j ne hi hk =
    elim (eqb_tells j i) [
      | inl same ↦ omega (arith, ap (one_at i) same.1, one_at-same i, one_at-other k j (λ e. ne (sym same.1 ∙ e)), ap h same.1, hi)
      | inr apart ↦ elim (eqb_tells j k) [
        | inl same ↦ omega (arith, ap (one_at k) same.1, one_at-same k, one_at-other i j apart.1, ap h same.1, hk)
        | inr other ↦ omega (arith, one_at-other i j apart.1, one_at-other k j other.1)
      ]
    ]

twice-le : (h : ℕ → ℕ) (i j : ℕ) → 2 ≤ h i → one_at i j + one_at i j ≤ h j
twice-le h i j hi =
    elim (eqb_tells j i) [
      | inl same ↦ omega (arith, ap (one_at i) same.1, one_at-same i, ap h same.1, hi)
      | inr other ↦ omega (arith, one_at-other i j other.1)
    ]

same-side : (s t : Side) (ns : List NodeView) (i : ℕ) (c : HashNo) → ComeLater ns → ((j : ℕ) → j < length ns → times ns 0 j ≡ 1) → i < length ns
    → part s (node_at ns i) ≡ Some c → part t (node_at ns i) ≡ Some c → s ≡ t
same-side inward inward ns i c L once li e f = refl
same-side outward outward ns i c L once li e f = refl
same-side inward outward ns i c L once li e f =
    absurd (two-places ns c.0 i i L once (L i inward c li e).1 li li (λ j. twice-le (hangs ns c.0) i j (hangs-twice ns c i e f)))
same-side outward inward ns i c L once li e f =
    absurd (two-places ns c.0 i i L once (L i outward c li e).1 li li (λ j. twice-le (hangs ns c.0) i j (hangs-twice ns c i f e)))

pub single-from_once : (ns : List NodeView) → ComeLater ns → ((j : ℕ) → j < length ns → times ns 0 j ≡ 1)
    → (i k : ℕ) (s t : Side) (c : HashNo) → i < length ns → k < length ns → part s (node_at ns i) ≡ Some c → part t (node_at ns k) ≡ Some c
    → (i ≡ k) × (s ≡ t)
single-from_once ns L once i k s t c li lk e f =
    elim (eqb_tells i k) [
      | inl same ↦ (same.1, same-side s t ns i c L once li e (ap (λ j. part t (node_at ns j)) same.1 ∙ f))
      | inr other ↦ absurd (two-places ns c.0 i k L once (L i s c li e).1 li lk
          (λ j. apart-le (hangs ns c.0) i k j other.1 (hangs-here s ns c i e) (hangs-here t ns c k f)))
    ]

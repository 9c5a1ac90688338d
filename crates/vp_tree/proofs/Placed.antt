-- A tree in which a word was placed is a tree.
use Rattle.std.proofs.Common.{◌≡◌, ◌≢◌, ◌∙◌, ℕ, zero, suc, ◌+◌, ◌<◌, ◌≤◌, ◌&&◌, ◌⊎◌, not, Bool, true, false, cond, List, All, [], ◌∷◌, ◌++◌, length, Option, Some, None, unwrap_or, refl, sym, ap, inl, inr, arith}
use Rattle.std.proofs.lemmas.Bool.{and_from, and_parts, both_ways, cond-false, cond-true, cond_both, false_from_ne_true}
use Rattle.std.proofs.lemmas.Bool.Decides.{eqb_tells}
use Rattle.std.proofs.lemmas.List.{length-append, get_or_append_left, get_or_push}
use Rattle.std.proofs.lemmas.Option.{none-some}
use Rattle.media_types.specs.Distance.{distance_of}
use Rattle.media_types.specs.declared.hash.Hash64.{Hash64}
use Rattle.media_types.specs.declared.limits.TheConstants.{MAX_WORDS}
use Rattle.media_types.specs.declared.numbers.HashNo.{HashNo}
use Rattle.vp_tree.specs.declared.node.NodeView.{NodeView}
use Rattle.vp_tree.specs.Nodes.{leaf, node_at, at_part, total, one_at, times, size}
use Rattle.vp_tree.specs.Placing.{next_of, way, is_on, grown, IsPlaced}
use Rattle.vp_tree.specs.Shape.{Side, inward, outward, part, ComeLater, IsLinked, IsTree}
use Rattle.vp_tree.proofs.Branches.{total-step}
use Rattle.vp_tree.proofs.Grown.{leads, IsBare, hung, hung-child, grown-word, grown-below, grown-radius, grown-part, grown-near, grown-far, next-leads, side_of, one_side}
use Rattle.vp_tree.proofs.Sorting.{one_at-other, one_at-same}
use Rattle.vp_tree.proofs.Times.{total_in-none}
use Rattle.vp_tree.proofs.Ways.{way_in-after, way_in-parent, way_in-child, way_in-end, way_in-first}

abbrev number_of : List NodeView → HashNo
number_of ns = record { 0 = length ns }

bare_at : (ns : List NodeView) → IsTree ns → (k : ℕ) → k < length ns → IsBare (node_at ns k)
bare_at ns T k lt s e = T.cut.bare k s lt e

at_on : (ns ms : List NodeView) (w : Hash64) (k : ℕ) → IsPlaced ns ms w → k < length ns → is_on (way ns w) k ≡ true
    → node_at ms k ≡ grown (number_of ns) w (node_at ns k)
at_on ns ms w k P lt e = P.each k lt ∙ ap (λ b. cond b (grown (number_of ns) w (node_at ns k)) (node_at ns k)) e

at_off : (ns ms : List NodeView) (w : Hash64) (k : ℕ) → IsPlaced ns ms w → k < length ns → is_on (way ns w) k ≡ false
    → node_at ms k ≡ node_at ns k
at_off ns ms w k P lt e = P.each k lt ∙ ap (λ b. cond b (grown (number_of ns) w (node_at ns k)) (node_at ns k)) e

word_at : (b : Bool) (ns ms : List NodeView) (w : Hash64) (k : ℕ) → IsPlaced ns ms w → k < length ns → is_on (way ns w) k ≡ b
    → (node_at ms k).word ≡ (node_at ns k).word
word_at true ns ms w k P lt e = ap (λ v. v.word) (at_on ns ms w k P lt e) ∙ grown-word (number_of ns) w (node_at ns k)
word_at false ns ms w k P lt e = ap (λ v. v.word) (at_off ns ms w k P lt e)

pub old_word : (ns ms : List NodeView) (w : Hash64) (k : ℕ) → IsPlaced ns ms w → k < length ns → (node_at ms k).word ≡ (node_at ns k).word
old_word ns ms w k P lt = word_at (is_on (way ns w) k) ns ms w k P lt refl

part_at : (b : Bool) (s : Side) (ns ms : List NodeView) (w : Hash64) (k : ℕ) → IsTree ns → IsPlaced ns ms w → k < length ns → is_on (way ns w) k ≡ b
    → part s (node_at ms k) ≡ hung (b && leads s (node_at ns k) w) (number_of ns) (part s (node_at ns k))
part_at true s ns ms w k T P lt e =
    ap (part s) (at_on ns ms w k P lt e) ∙ grown-part s (number_of ns) w (node_at ns k) (bare_at ns T k lt)
part_at false s ns ms w k T P lt e = ap (part s) (at_off ns ms w k P lt e)

-- what hangs on each side now
new_part : (s : Side) (ns ms : List NodeView) (w : Hash64) (k : ℕ) → IsTree ns → IsPlaced ns ms w → k < length ns
    → part s (node_at ms k) ≡ hung (is_on (way ns w) k && leads s (node_at ns k) w) (number_of ns) (part s (node_at ns k))
new_part s ns ms w k T P lt = part_at (is_on (way ns w) k) s ns ms w k T P lt refl

last_part : (s : Side) (ns ms : List NodeView) (w : Hash64) → IsPlaced ns ms w → part s (node_at ms (length ns)) ≡ None
last_part inward ns ms w P = ap (λ v. v.inner) P.last
last_part outward ns ms w P = ap (λ v. v.outer) P.last

pub old_or_last : (k n : ℕ) → k < n + 1 → (k < n) ⊎ (k ≡ n)
old_or_last k n lt = elim (eqb_tells k n) [ inl same ↦ inr same.1 | inr other ↦ inl (omega (arith, lt, other.1)) ]

-- a child of an old node hung there before, or is the new point at the end of the word's way
child_at : (s : Side) (ns ms : List NodeView) (w : Hash64) (k : ℕ) (c : HashNo) → IsTree ns → IsPlaced ns ms w → k < length ns
    → part s (node_at ms k) ≡ Some c
    → (part s (node_at ns k) ≡ Some c)
    ⊎ (((is_on (way ns w) k && leads s (node_at ns k) w) ≡ true) × (part s (node_at ns k) ≡ None) × (c ≡ number_of ns))
child_at s ns ms w k c T P lt e =
    hung-child (part s (node_at ns k)) (is_on (way ns w) k && leads s (node_at ns k) w) (number_of ns) c (sym (new_part s ns ms w k T P lt) ∙ e)

placed-later : (ns ms : List NodeView) (w : Hash64) → IsTree ns → IsPlaced ns ms w → ComeLater ms
placed-later ns ms w T P k s c lt e =
    elim (old_or_last k (length ns) (omega (arith, lt, P.len))) [
      | inl old ↦ elim (child_at s ns ms w k c T P old e) [
        | inl was ↦ let l : (k < c.0) × (c.0 < length ns) = T.linked.later k s c old was in (l.0, omega (arith, l.1, P.len))
        | inr now ↦ let n : c.0 ≡ length ns = ap (λ (d : HashNo). d.0) now.2 in (omega (arith, n, old), omega (arith, n, P.len))
      ]
      | inr last ↦ absurd (none-some c (sym (last_part s ns ms w P) ∙ ap (λ i. part s (node_at ms i)) (sym last) ∙ e))
    ]

end_at : (s : Side) (ns : List NodeView) (w : Hash64) (k : ℕ) → IsTree ns → k < length ns
    → (is_on (way ns w) k && leads s (node_at ns k) w) ≡ true → part s (node_at ns k) ≡ None → next_of (node_at ns k) w ≡ None
end_at s ns w k T lt on none =
    next-leads s (node_at ns k) w (bare_at ns T k lt) (and_parts (is_on (way ns w) k) (leads s (node_at ns k) w) on).1 ∙ none

placed-single-old : (i k : ℕ) (s t : Side) (ns ms : List NodeView) (w : Hash64) (c : HashNo) → IsTree ns → IsPlaced ns ms w → i < length ns → k < length ns
    → part s (node_at ms i) ≡ Some c → part t (node_at ms k) ≡ Some c → (i ≡ k) × (s ≡ t)
placed-single-old i k s t ns ms w c T P li lk ei ek =
    elim (child_at s ns ms w i c T P li ei) [
      | inl was ↦ elim (child_at t ns ms w k c T P lk ek) [
        | inl also ↦ T.linked.single i k s t c li lk was also
        | inr now ↦ absurd (let n : c.0 ≡ length ns = ap (λ (d : HashNo). d.0) now.2 in let l = (T.linked.later i s c li was).1 in omega (arith, n, l))
      ]
      | inr now ↦ elim (child_at t ns ms w k c T P lk ek) [
        | inl was ↦ absurd (let n : c.0 ≡ length ns = ap (λ (d : HashNo). d.0) now.2 in let l = (T.linked.later k t c lk was).1 in omega (arith, n, l))
        | inr also ↦
            let on_i = and_parts (is_on (way ns w) i) (leads s (node_at ns i) w) now.0 in
            let on_k = and_parts (is_on (way ns w) k) (leads t (node_at ns k) w) also.0 in
            let same : i ≡ k = way_in-end (length ns) ns w 0 i k on_i.0 on_k.0 (end_at s ns w i T li now.0 now.1) (end_at t ns w k T lk also.0 also.1) in
            (same, one_side s t (node_at ns k) w (ap (λ j. leads s (node_at ns j) w) (sym same) ∙ on_i.1) on_k.1)
      ]
    ]

on_child : (b : Bool) (s : Side) (ns : List NodeView) (w : Hash64) (k : ℕ) (c : HashNo) → IsTree ns → k < length ns
    → part s (node_at ns k) ≡ Some c → (is_on (way ns w) k && leads s (node_at ns k) w) ≡ b → is_on (way ns w) c.0 ≡ b
on_child true s ns w k c T lt e on =
    let parts = and_parts (is_on (way ns w) k) (leads s (node_at ns k) w) on in
    way_in-child (length ns) ns w 0 k c T.linked.later (omega (arith, lt)) (omega arith) parts.0
    (next-leads s (node_at ns k) w (bare_at ns T k lt) parts.1 ∙ e)
on_child false s ns w k c T lt e off =
    false_from_ne_true (is_on (way ns w) c.0) (λ on.
    let later = (T.linked.later k s c lt e).0 in
    let parent : (p : ℕ) × (is_on (way ns w) p ≡ true) × (next_of (node_at ns p) w ≡ Some (record { 0 = c.0 })) =
    way_in-parent (length ns) ns w 0 c.0 (omega (arith, later)) on in
    let there : parent.0 < length ns = (way_in-after (length ns) ns w 0 parent.0 T.linked.later (omega (arith, lt)) parent.1).1 in
    let side : (t : Side) × (leads t (node_at ns parent.0) w ≡ true) = side_of (node_at ns parent.0) w in
    let same : (k ≡ parent.0) × (s ≡ side.0) =
    T.linked.single k parent.0 s side.0 c lt there e
    (sym (next-leads side.0 (node_at ns parent.0) w (bare_at ns T parent.0 there) side.1) ∙ parent.2) in
    both_ways (is_on (way ns w) k && leads s (node_at ns k) w) off
    (and_from (is_on (way ns w) k) (leads s (node_at ns k) w) (ap (is_on (way ns w)) same.0 ∙ parent.1)
    (ap (λ j. leads s (node_at ns j) w) same.0 ∙ ap (λ t. leads t (node_at ns parent.0) w) same.1 ∙ side.1)))

-- the sum over a part, once the new point may hang there
at_part-hung : (o now : Option HashNo) (b : Bool) (ns ms : List NodeView) (g : ℕ → ℕ) → now ≡ hung b (number_of ns) o
    → ((c : HashNo) → o ≡ Some c → total ms g c.0 ≡ total ns g c.0 + cond b (g (length ns)) 0) → total ms g (length ns) ≡ g (length ns)
    → at_part now (total ms g) ≡ at_part o (total ns g) + cond b (g (length ns)) 0
at_part-hung None now true ns ms g e h leaf = rw e (omega (arith, leaf))
at_part-hung None now false ns ms g e h leaf = rw e refl
at_part-hung (Some c) now true ns ms g e h leaf = rw e (h c refl)
at_part-hung (Some c) now false ns ms g e h leaf = rw e (h c refl)

split_sum : (a b : Bool) (x : ℕ) → cond (a && b) x 0 + cond (a && not b) x 0 ≡ cond a x 0
split_sum true true x = omega arith
split_sum true false x = omega arith
split_sum false b x = refl

-- the new point is a branch of its own
last_total : (ns ms : List NodeView) (w : Hash64) (g : ℕ → ℕ) → ComeLater ms → IsPlaced ns ms w → total ms g (length ns) ≡ g (length ns)
last_total ns ms w g L P =
    let inner : at_part (node_at ms (length ns)).inner (total ms g) ≡ 0 = ap (λ o. at_part o (total ms g)) (last_part inward ns ms w P) in
    let outer : at_part (node_at ms (length ns)).outer (total ms g) ≡ 0 = ap (λ o. at_part o (total ms g)) (last_part outward ns ms w P) in
    omega (arith, total-step ms g (length ns) L (omega (arith, P.len)), inner, outer)

-- each branch on the way has the new point once more, and no other branch has it
grown_total : (m : ℕ) (ns ms : List NodeView) (w : Hash64) (g : ℕ → ℕ) (k : ℕ) → IsTree ns → ComeLater ms → IsPlaced ns ms w
    → k < length ns → length ns ≤ m + k → total ms g k ≡ total ns g k + cond (is_on (way ns w) k) (g (length ns)) 0
grown_total zero ns ms w g k T L P lt q = absurd (omega (arith, lt, q))
grown_total (suc m) ns ms w g k T L P lt q =
    let part_sum : (s : Side) → at_part (part s (node_at ms k)) (total ms g)
    ≡ at_part (part s (node_at ns k)) (total ns g) + cond (is_on (way ns w) k && leads s (node_at ns k) w) (g (length ns)) 0 =
    λ s. at_part-hung (part s (node_at ns k)) (part s (node_at ms k)) (is_on (way ns w) k && leads s (node_at ns k) w) ns ms g
    (new_part s ns ms w k T P lt)
    (λ c e. let l : (k < c.0) × (c.0 < length ns) = T.linked.later k s c lt e in
    grown_total m ns ms w g c.0 T L P l.1 (omega (arith, l.0, q))
    ∙ ap (λ b. total ns g c.0 + cond b (g (length ns)) 0) (on_child (is_on (way ns w) k && leads s (node_at ns k) w) s ns w k c T lt e refl))
    (last_total ns ms w g L P) in
    omega (
      arith,
      total-step ms g k L (omega (arith, lt, P.len)),
      total-step ns g k T.linked.later lt,
      part_sum inward,
      part_sum outward,
      split_sum (is_on (way ns w) k) (leads inward (node_at ns k) w) (g (length ns)),
    )

placed-total : (ns ms : List NodeView) (w : Hash64) (g : ℕ → ℕ) (k : ℕ) → IsTree ns → IsPlaced ns ms w
    → k < length ns → total ms g k ≡ total ns g k + cond (is_on (way ns w) k) (g (length ns)) 0
placed-total ns ms w g k T P lt = grown_total (length ns) ns ms w g k T (placed-later ns ms w T P) P lt (omega arith)

-- no branch of the old tree has the new number
absent : (ns : List NodeView) (k : ℕ) → IsTree ns → k < length ns → times ns k (length ns) ≡ 0
absent ns k T lt = total_in-none (length ns) ns (one_at (length ns)) 0 k T.linked.later (λ i _ h. one_at-other (length ns) i (omega (arith, h))) (omega arith) lt

on_root : (ns : List NodeView) (w : Hash64) → 0 < length ns → is_on (way ns w) 0 ≡ true
on_root ns w h = way_in-first (length ns) ns w 0 h

cond_on : (b : Bool) (n : ℕ) → 1 ≤ cond b n 0 → b ≡ true
cond_on true n h = refl
cond_on false n h = absurd (omega (arith, h))

-- an old branch has an old node as often as before
old_times : (ns ms : List NodeView) (w : Hash64) (k j : ℕ) → IsTree ns → IsPlaced ns ms w → k < length ns → j < length ns → times ms k j ≡ times ns k j
old_times ns ms w k j T P lk lj =
    omega (
      arith,
      placed-total ns ms w (one_at j) k T P lk,
      cond_both (is_on (way ns w) k) (one_at j (length ns)) 0 (λ n. n ≡ 0) (λ _. one_at-other j (length ns) (omega (arith, lj))) (λ _. refl),
    )

last_times : (ns ms : List NodeView) (w : Hash64) (j : ℕ) → IsTree ns → IsPlaced ns ms w → j < length ns → times ms (length ns) j ≡ 0
last_times ns ms w j T P lj =
    last_total ns ms w (one_at j) (placed-later ns ms w T P) P ∙ one_at-other j (length ns) (omega (arith, lj))

root_times : (n j : ℕ) (ns ms : List NodeView) (w : Hash64) → IsTree ns → IsPlaced ns ms w → length ns ≡ n → j < length ns + 1 → times ms 0 j ≡ 1
root_times zero j ns ms w T P e lt =
    let first : j ≡ length ns = omega (arith, e, lt) in
    let root : length ns ≡ 0 = e in
    ap (λ i. times ms i j) (sym root) ∙ last_total ns ms w (one_at j) (placed-later ns ms w T P) P
    ∙ ap (one_at j) (sym first) ∙ one_at-same j
root_times (suc n) j ns ms w T P e lt =
    let some : 0 < length ns = omega (arith, e) in
    elim (old_or_last j (length ns) lt) [
      | inl old ↦ old_times ns ms w 0 j T P some old ∙ T.linked.once j old
      | inr last ↦
          let grows : times ms 0 (length ns) ≡ times ns 0 (length ns) + cond (is_on (way ns w) 0) (one_at (length ns) (length ns)) 0 =
          placed-total ns ms w (one_at (length ns)) 0 T P some in
          let new : cond (is_on (way ns w) 0) (one_at (length ns) (length ns)) 0 ≡ one_at (length ns) (length ns) =
          ap (λ b. cond b (one_at (length ns) (length ns)) 0) (on_root ns w some) in
          ap (times ms 0) last ∙ omega (arith, grows, new, one_at-same (length ns), absent ns 0 T some)
    ]

root_size : (n : ℕ) (ns ms : List NodeView) (w : Hash64) → IsTree ns → IsPlaced ns ms w → length ns ≡ n → size ms 0 ≡ length ns + 1
root_size zero ns ms w T P e =
    let root : length ns ≡ 0 = e in
    ap (size ms) (sym root) ∙ last_total ns ms w (λ _. 1) (placed-later ns ms w T P) P ∙ omega (arith, root)
root_size (suc n) ns ms w T P e =
    let some : 0 < length ns = omega (arith, e) in
    let grows : size ms 0 ≡ size ns 0 + cond (is_on (way ns w) 0) 1 0 = placed-total ns ms w (λ _. 1) 0 T P some in
    let new = cond-true {A = ℕ} (is_on (way ns w) 0) 1 0 (on_root ns w some) in
    omega (arith, grows, new, T.linked.all some)

placed-single : (ns ms : List NodeView) (w : Hash64) → IsTree ns → IsPlaced ns ms w → (i k : ℕ) (s t : Side) (c : HashNo) → i < length ms → k < length ms
    → part s (node_at ms i) ≡ Some c → part t (node_at ms k) ≡ Some c → (i ≡ k) × (s ≡ t)
placed-single ns ms w T P i k s t c li lk ei ek =
    elim (old_or_last i (length ns) (omega (arith, li, P.len))) [
      | inl old ↦ elim (old_or_last k (length ns) (omega (arith, lk, P.len))) [
        | inl also ↦ placed-single-old i k s t ns ms w c T P old also ei ek
        | inr last ↦ absurd (none-some c (sym (last_part t ns ms w P) ∙ ap (λ j. part t (node_at ms j)) (sym last) ∙ ek))
      ]
      | inr last ↦ absurd (none-some c (sym (last_part s ns ms w P) ∙ ap (λ j. part s (node_at ms j)) (sym last) ∙ ei))
    ]

placed-linked : (ns ms : List NodeView) (w : Hash64) → IsTree ns → IsPlaced ns ms w → IsLinked ms
placed-linked ns ms w T P = record {
  later = placed-later ns ms w T P;
  single = placed-single ns ms w T P;
  once = λ j lt. root_times (length ns) j ns ms w T P refl (omega (arith, lt, P.len));
  all = λ _. root_size (length ns) ns ms w T P refl ∙ sym P.len;
}

-- an old node that had children keeps its radius
radius_kept : (b : Bool) (ns ms : List NodeView) (w : Hash64) (k r : ℕ) (o : Option ℕ) → IsPlaced ns ms w → k < length ns → is_on (way ns w) k ≡ b
    → (node_at ns k).radius ≡ o → (o ≡ None → ⊥) → (node_at ms k).radius ≡ Some r → (node_at ns k).radius ≡ Some r
radius_kept b ns ms w k r None P lt e er some f = absurd (some refl)
radius_kept true ns ms w k r (Some x) P lt e er some f =
    er ∙ sym (ap (λ v. v.radius) (at_on ns ms w k P lt e) ∙ grown-radius (number_of ns) w (node_at ns k)
    ∙ ap (λ o. Some (unwrap_or o (distance_of w (node_at ns k).word))) er) ∙ f
radius_kept false ns ms w k r (Some x) P lt e er some f = sym (ap (λ v. v.radius) (at_off ns ms w k P lt e)) ∙ f

had_radius : (ns : List NodeView) (k : ℕ) (s : Side) (c : HashNo) → IsTree ns → k < length ns → part s (node_at ns k) ≡ Some c → (node_at ns k).radius ≡ None → ⊥
had_radius ns k s c T lt e none = none-some c (sym (T.cut.bare k s lt none) ∙ e)

-- what a part holds on each side: an old node as before, and the new point only on its side
cut_at : (s : Side) (ns ms : List NodeView) (w : Hash64) (k j r : ℕ) (c : HashNo) → IsTree ns → IsPlaced ns ms w → k < length ns → j < length ns + 1
    → (node_at ms k).radius ≡ Some r → part s (node_at ms k) ≡ Some c → 1 ≤ times ms c.0 j
    → ((j < length ns) × ((node_at ns k).radius ≡ Some r) × (part s (node_at ns k) ≡ Some c) × (1 ≤ times ns c.0 j))
    ⊎ ((j ≡ length ns) × (is_on (way ns w) k ≡ true) × (leads s (node_at ns k) w ≡ true))
cut_at s ns ms w k j r c T P lk lj er ec has =
    elim (child_at s ns ms w k c T P lk ec) [
      | inl was ↦
          let l : (k < c.0) × (c.0 < length ns) = T.linked.later k s c lk was in
          elim (old_or_last j (length ns) lj) [
            | inl old ↦ inl (
              old,
              radius_kept (is_on (way ns w) k) ns ms w k r (node_at ns k).radius P lk refl refl (had_radius ns k s c T lk was) er,
              was,
              omega (arith, old_times ns ms w c.0 j T P l.1 old, has),
            )
            | inr last ↦
                let grows : times ms c.0 (length ns) ≡ times ns c.0 (length ns) + cond (is_on (way ns w) c.0) (one_at (length ns) (length ns)) 0 =
                placed-total ns ms w (one_at (length ns)) c.0 T P l.1 in
                let here : 1 ≤ times ms c.0 (length ns) = omega (arith, has, ap (times ms c.0) last) in
                let on : is_on (way ns w) c.0 ≡ true = cond_on (is_on (way ns w) c.0) (one_at (length ns) (length ns)) (omega (arith, grows, here, absent ns c.0 T l.1)) in
                let parts : (is_on (way ns w) k ≡ true) × (leads s (node_at ns k) w ≡ true) = and_parts (is_on (way ns w) k) (leads s (node_at ns k) w)
                (sym (on_child (is_on (way ns w) k && leads s (node_at ns k) w) s ns w k c T lk was refl) ∙ on) in
                inr (last, parts.0, parts.1)
          ]
      | inr now ↦
          let parts : (is_on (way ns w) k ≡ true) × (leads s (node_at ns k) w ≡ true) = and_parts (is_on (way ns w) k) (leads s (node_at ns k) w) now.0 in
          let n : c.0 ≡ length ns = ap (λ (d : HashNo). d.0) now.2 in
          elim (old_or_last j (length ns) lj) [
            | inl old ↦ absurd (omega (arith, has, ap (λ i. times ms i j) n, last_times ns ms w j T P old))
            | inr last ↦ inr (last, parts.0, parts.1)
          ]
    ]

placed-near : (ns ms : List NodeView) (w : Hash64) → IsTree ns → IsPlaced ns ms w → (k j r : ℕ) (c : HashNo) → k < length ms → j < length ms
    → (node_at ms k).radius ≡ Some r → (node_at ms k).inner ≡ Some c → 1 ≤ times ms c.0 j
    → distance_of (node_at ms j).word (node_at ms k).word ≤ r
placed-near ns ms w T P k j r c lk lj er ec has =
    elim (old_or_last k (length ns) (omega (arith, lk, P.len))) [
      | inl old ↦ elim (cut_at inward ns ms w k j r c T P old (omega (arith, lj, P.len)) er ec has) [
        | inl was ↦ rw (old_word ns ms w j P was.0, old_word ns ms w k P old) (T.cut.near k j r c old was.0 was.1 was.2 was.3)
        | inr now ↦ rw (ap (λ i. (node_at ms i).word) now.0 ∙ ap (λ v. v.word) P.last, old_word ns ms w k P old)
            (grown-near (number_of ns) w (node_at ns k) r now.2 (sym (ap (λ v. v.radius) (at_on ns ms w k P old now.1)) ∙ er))
      ]
      | inr last ↦ absurd (none-some c (sym (last_part inward ns ms w P) ∙ ap (λ i. part inward (node_at ms i)) (sym last) ∙ ec))
    ]

placed-far : (ns ms : List NodeView) (w : Hash64) → IsTree ns → IsPlaced ns ms w → (k j r : ℕ) (c : HashNo) → k < length ms → j < length ms
    → (node_at ms k).radius ≡ Some r → (node_at ms k).outer ≡ Some c → 1 ≤ times ms c.0 j
    → r < distance_of (node_at ms j).word (node_at ms k).word
placed-far ns ms w T P k j r c lk lj er ec has =
    elim (old_or_last k (length ns) (omega (arith, lk, P.len))) [
      | inl old ↦ elim (cut_at outward ns ms w k j r c T P old (omega (arith, lj, P.len)) er ec has) [
        | inl was ↦ rw (old_word ns ms w j P was.0, old_word ns ms w k P old) (T.cut.far k j r c old was.0 was.1 was.2 was.3)
        | inr now ↦ rw (ap (λ i. (node_at ms i).word) now.0 ∙ ap (λ v. v.word) P.last, old_word ns ms w k P old)
            (grown-far (number_of ns) w (node_at ns k) r now.2 (sym (ap (λ v. v.radius) (at_on ns ms w k P old now.1)) ∙ er))
      ]
      | inr last ↦ absurd (none-some c (sym (last_part outward ns ms w P) ∙ ap (λ i. part outward (node_at ms i)) (sym last) ∙ ec))
    ]

bare_old : (b : Bool) (s : Side) (ns ms : List NodeView) (w : Hash64) (k : ℕ) → IsTree ns → IsPlaced ns ms w → k < length ns → is_on (way ns w) k ≡ b
    → (node_at ms k).radius ≡ None → part s (node_at ms k) ≡ None
bare_old true s ns ms w k T P lt e none =
    absurd (none-some _ (sym none ∙ ap (λ v. v.radius) (at_on ns ms w k P lt e) ∙ grown-radius (number_of ns) w (node_at ns k)))
bare_old false s ns ms w k T P lt e none =
    let same : node_at ms k ≡ node_at ns k = at_off ns ms w k P lt e in
    ap (part s) same ∙ T.cut.bare k s lt (sym (ap (λ v. v.radius) same) ∙ none)

placed-bare : (ns ms : List NodeView) (w : Hash64) → IsTree ns → IsPlaced ns ms w → (k : ℕ) (s : Side) → k < length ms
    → (node_at ms k).radius ≡ None → part s (node_at ms k) ≡ None
placed-bare ns ms w T P k s lt none =
    elim (old_or_last k (length ns) (omega (arith, lt, P.len))) [
      | inl old ↦ bare_old (is_on (way ns w) k) s ns ms w k T P old refl none
      | inr last ↦ ap (λ i. part s (node_at ms i)) last ∙ last_part s ns ms w P
    ]

below_old : (b : Bool) (ns ms : List NodeView) (w : Hash64) (k : ℕ) → IsTree ns → IsPlaced ns ms w → k < length ns → is_on (way ns w) k ≡ b
    → (node_at ms k).below + 1 ≡ size ms k
below_old true ns ms w k T P lt e =
    let grows : size ms k ≡ size ns k + cond (is_on (way ns w) k) 1 0 = placed-total ns ms w (λ _. 1) k T P lt in
    let new = cond-true {A = ℕ} (is_on (way ns w) k) 1 0 e in
    omega (arith, grows, new, T.below k lt, ap (λ v. v.below) (at_on ns ms w k P lt e), grown-below (number_of ns) w (node_at ns k))
below_old false ns ms w k T P lt e =
    let grows : size ms k ≡ size ns k + cond (is_on (way ns w) k) 1 0 = placed-total ns ms w (λ _. 1) k T P lt in
    let new = cond-false {A = ℕ} (is_on (way ns w) k) 1 0 e in
    omega (arith, grows, new, T.below k lt, ap (λ v. v.below) (at_off ns ms w k P lt e))

placed-below : (ns ms : List NodeView) (w : Hash64) → IsTree ns → IsPlaced ns ms w → (k : ℕ) → k < length ms → (node_at ms k).below + 1 ≡ size ms k
placed-below ns ms w T P k lt =
    elim (old_or_last k (length ns) (omega (arith, lt, P.len))) [
      | inl old ↦ below_old (is_on (way ns w) k) ns ms w k T P old refl
      | inr last ↦
          let whole : size ms (length ns) ≡ 1 = last_total ns ms w (λ _. 1) (placed-later ns ms w T P) P in
          omega (arith, whole, ap (size ms) last, ap (λ i. (node_at ms i).below) last, ap (λ v. v.below) P.last)
    ]

placed-words : (ns ms : List NodeView) (w : Hash64) → IsTree ns → IsPlaced ns ms w → All (λ node. node.word ≢ w) ns → (i k : ℕ) → i < length ms → k < length ms
    → (node_at ms i).word ≡ (node_at ms k).word → i ≡ k
placed-words ns ms w T P other i k li lk e =
    elim (old_or_last i (length ns) (omega (arith, li, P.len))) [
      | inl old ↦ elim (old_or_last k (length ns) (omega (arith, lk, P.len))) [
        | inl also ↦ T.words i k old also (sym (old_word ns ms w i P old) ∙ e ∙ old_word ns ms w k P also)
        | inr last ↦ absurd (other i (leaf (record { 0 = 0 })) old (sym (old_word ns ms w i P old) ∙ e ∙ ap (λ j. (node_at ms j).word) last ∙ ap (λ v. v.word) P.last))
      ]
      | inr last ↦ elim (old_or_last k (length ns) (omega (arith, lk, P.len))) [
        | inl also ↦ absurd (other k (leaf (record { 0 = 0 })) also (sym (old_word ns ms w k P also) ∙ sym e ∙ ap (λ j. (node_at ms j).word) last ∙ ap (λ v. v.word) P.last))
        | inr both ↦ last ∙ sym both
      ]
    ]

-- once the way has grown, the new point is put last
pub pushed-placed : (ns rows ms : List NodeView) (w : Hash64) (number : HashNo) → number.0 ≡ length ns → length rows ≡ length ns
    → ((k : ℕ) → k < length ns → node_at rows k ≡ cond (is_on (way ns w) k) (grown number w (node_at ns k)) (node_at ns k))
    → ms ≡ rows ++ leaf w ∷ [] → IsPlaced ns ms w
pushed-placed ns rows ms w number n len each e = record {
  len = omega (arith, ap length e, len, length-append rows (leaf w ∷ []));
  each = λ k lt. ap (λ xs. node_at xs k) e ∙ get_or_append_left rows (leaf w ∷ []) (leaf (record { 0 = 0 })) k (omega (arith, lt, len)) ∙ each k lt
      ∙ ap (λ i. cond (is_on (way ns w) k) (grown (record { 0 = i }) w (node_at ns k)) (node_at ns k)) n;
  last = ap (λ xs. node_at xs (length ns)) e ∙ get_or_push rows (leaf w) (leaf (record { 0 = 0 })) (length ns) len;
}

pub placed-tree : (ns ms : List NodeView) (w : Hash64) → IsTree ns → IsPlaced ns ms w → length ns < MAX_WORDS → All (λ node. node.word ≢ w) ns → IsTree ms
placed-tree ns ms w T P few other = record {
  few = omega (arith, few, P.len);
  linked = placed-linked ns ms w T P;
  cut = record { near = placed-near ns ms w T P; far = placed-far ns ms w T P; bare = placed-bare ns ms w T P };
  words = placed-words ns ms w T P other;
  below = placed-below ns ms w T P;
}

-- The nodes to which a word leads.
use Rattle.std.proofs.Common.{◌≡◌, ◌≢◌, ◌∙◌, ℕ, zero, suc, ◌+◌, ◌<◌, ◌≤◌, ◌==◌, Bool, true, false, cond, List, [], ◌∷◌, length, Option, Some, None, refl, sym, ap, inl, inr, arith}
use Rattle.std.specs.Option.{option_map_or}
use Rattle.std.proofs.lemmas.Bool.{or_right}
use Rattle.std.proofs.lemmas.Bool.Decides.{eqb_tells}
use Rattle.std.proofs.lemmas.Option.{none-some}
use Rattle.media_types.specs.declared.hash.Hash64.{Hash64}
use Rattle.media_types.specs.declared.numbers.HashNo.{HashNo}
use Rattle.vp_tree.specs.declared.node.NodeView.{NodeView}
use Rattle.vp_tree.specs.Nodes.{node_at}
use Rattle.vp_tree.specs.Placing.{is_within, next_of, way_in, is_on}
use Rattle.vp_tree.specs.Shape.{Side, inward, outward, part, ComeLater}

-- the way that is left from a node on, or none
abbrev pub left_way : List NodeView → Hash64 → Option HashNo → List ℕ
left_way ns w next = option_map_or (λ c. way_in (length ns) ns w c.0) next []

next_if-there : (b : Bool) (node : NodeView) (c : HashNo) → cond b node.inner node.outer ≡ Some c → (s : Side) × (part s node ≡ Some c)
next_if-there true node c e = (inward, e)
next_if-there false node c e = (outward, e)

pub next_from-there : (o : Option ℕ) (node : NodeView) (w : Hash64) (c : HashNo)
    → option_map_or (λ r. cond (is_within node r w) node.inner node.outer) o None ≡ Some c → (s : Side) × (part s node ≡ Some c)
next_from-there None node w c e = absurd cc
next_from-there (Some r) node w c e = next_if-there (is_within node r w) node c e

pub next-later : (ns : List NodeView) (w : Hash64) (k : ℕ) (c : HashNo) → ComeLater ns → k < length ns
    → next_of (node_at ns k) w ≡ Some c → (k < c.0) × (c.0 < length ns)
next-later ns w k c L lt e =
    let there : (s : Side) × (part s (node_at ns k) ≡ Some c) = next_from-there (node_at ns k).radius (node_at ns k) w c e in
    L k there.0 c lt there.1

rest-same : (o : Option HashNo) (F G : ℕ → List ℕ) → ((c : HashNo) → o ≡ Some c → F c.0 ≡ G c.0)
    → option_map_or (λ c. F c.0) o [] ≡ option_map_or (λ c. G c.0) o []
rest-same None F G h = refl
rest-same (Some c) F G h = h c refl

way_in-same : (f h : ℕ) (ns : List NodeView) (w : Hash64) (k : ℕ) → ComeLater ns → k < length ns
    → length ns ≤ f + k → length ns ≤ h + k → way_in f ns w k ≡ way_in h ns w k
way_in-same zero h ns w k L lt p q = absurd (omega (arith, lt, p))
way_in-same (suc f) zero ns w k L lt p q = absurd (omega (arith, lt, q))
way_in-same (suc f) (suc h) ns w k L lt p q =
    ap (λ xs. k ∷ xs) (rest-same (next_of (node_at ns k) w) (way_in f ns w) (way_in h ns w)
    (λ c e. let l : (k < c.0) × (c.0 < length ns) = next-later ns w k c L lt e in way_in-same f h ns w c.0 L l.1 (omega (arith, l.0, p)) (omega (arith, l.0, q))))

way_in-step : (f : ℕ) (ns : List NodeView) (w : Hash64) (k : ℕ) → ComeLater ns → k < length ns → length ns ≤ f
    → way_in f ns w k ≡ k ∷ option_map_or (λ c. way_in f ns w c.0) (next_of (node_at ns k) w) []
way_in-step zero ns w k L lt p = absurd (omega (arith, lt, p))
way_in-step (suc f) ns w k L lt p =
    ap (λ xs. k ∷ xs) (rest-same (next_of (node_at ns k) w) (way_in f ns w) (way_in (suc f) ns w)
    (λ c e. let l : (k < c.0) × (c.0 < length ns) = next-later ns w k c L lt e in way_in-same f (suc f) ns w c.0 L l.1 (omega (arith, l.0, p)) (omega (arith, l.0, p))))

pub way-step : (ns : List NodeView) (w : Hash64) (k : ℕ) → ComeLater ns → k < length ns
    → way_in (length ns) ns w k ≡ k ∷ left_way ns w (next_of (node_at ns k) w)
way-step ns w k L lt = way_in-step (length ns) ns w k L lt (omega arith)

-- a number is the first of a list, or stands in the rest
pub on_rest : (a i : ℕ) (ks : List ℕ) → a ≢ i → is_on (a ∷ ks) i ≡ is_on ks i
on_rest a i ks ne = elim (eqb_tells a i) [ inl same ↦ absurd (ne same.1) | inr other ↦ rw other.0 refl ]

pub on_first : (a : ℕ) (ks : List ℕ) → is_on (a ∷ ks) a ≡ true
on_first a ks = elim (eqb_tells a a) [ inl same ↦ rw same.0 refl | inr other ↦ absurd (other.1 refl) ]

rest-on : (o : Option HashNo) (F : ℕ → List ℕ) (i : ℕ) → is_on (option_map_or (λ c. F c.0) o []) i ≡ true
    → (c : HashNo) × (o ≡ Some c) × (is_on (F c.0) i ≡ true)
rest-on None F i e = absurd cc
rest-on (Some c) F i e = (c, refl, e)

on_by_rest : (o : Option HashNo) (F : ℕ → List ℕ) (i : ℕ) (c : HashNo) → o ≡ Some c → is_on (F c.0) i ≡ true
    → is_on (option_map_or (λ c. F c.0) o []) i ≡ true
on_by_rest o F i c e h = rw e h

-- a way from a node leads to later nodes alone
pub way_in-after : (f : ℕ) (ns : List NodeView) (w : Hash64) (k i : ℕ) → ComeLater ns → k < length ns
    → is_on (way_in f ns w k) i ≡ true → (k ≤ i) × (i < length ns)
way_in-after zero ns w k i L lt e = absurd cc
way_in-after (suc f) ns w k i L lt e =
    elim (eqb_tells k i) [
      | inl same ↦ (omega (arith, same.1), omega (arith, same.1, lt))
      | inr other ↦
          let rest : (c : HashNo) × (next_of (node_at ns k) w ≡ Some c) × (is_on (way_in f ns w c.0) i ≡ true) =
          rest-on (next_of (node_at ns k) w) (way_in f ns w) i (sym (on_rest k i _ other.1) ∙ e) in
          let l : (k < rest.0.0) × (rest.0.0 < length ns) = next-later ns w k rest.0 L lt rest.1 in
          let more : (rest.0.0 ≤ i) × (i < length ns) = way_in-after f ns w rest.0.0 i L l.1 rest.2 in
          (omega (arith, l.0, more.0), more.1)
    ]

-- a node on a way but its first comes after another node of it
pub way_in-parent : (f : ℕ) (ns : List NodeView) (w : Hash64) (a c : ℕ) → a ≢ c → is_on (way_in f ns w a) c ≡ true
    → (p : ℕ) × (is_on (way_in f ns w a) p ≡ true) × (next_of (node_at ns p) w ≡ Some (record { 0 = c }))
way_in-parent zero ns w a c ne e = absurd cc
way_in-parent (suc f) ns w a c ne e =
    let rest : (d : HashNo) × (next_of (node_at ns a) w ≡ Some d) × (is_on (way_in f ns w d.0) c ≡ true) =
    rest-on (next_of (node_at ns a) w) (way_in f ns w) c (sym (on_rest a c _ ne) ∙ e) in
    elim (eqb_tells rest.0.0 c) [
      | inl same ↦ (a, on_first a _, rest.1 ∙ ap (λ i. Some (record { 0 = i })) same.1)
      | inr other ↦
          let above : (p : ℕ) × (is_on (way_in f ns w rest.0.0) p ≡ true) × (next_of (node_at ns p) w ≡ Some (record { 0 = c })) =
          way_in-parent f ns w rest.0.0 c other.1 rest.2 in
          (above.0, or_right (a == above.0) _ (on_by_rest (next_of (node_at ns a) w) (way_in f ns w) above.0 rest.0 rest.1 above.1), above.2)
    ]

pub way_in-first : (f : ℕ) (ns : List NodeView) (w : Hash64) (k : ℕ) → 0 < f → is_on (way_in f ns w k) k ≡ true
way_in-first zero ns w k h = absurd (omega (arith, h))
way_in-first (suc f) ns w k h = on_first k _

-- a way goes on to the next node
pub way_in-child : (f : ℕ) (ns : List NodeView) (w : Hash64) (a p : ℕ) (c : HashNo) → ComeLater ns → a < length ns → length ns ≤ f + a
    → is_on (way_in f ns w a) p ≡ true → next_of (node_at ns p) w ≡ Some c → is_on (way_in f ns w a) c.0 ≡ true
way_in-child zero ns w a p c L lt q e next = absurd cc
way_in-child (suc f) ns w a p c L lt q e next =
    elim (eqb_tells a p) [
      | inl same ↦
          let from : next_of (node_at ns a) w ≡ Some c = ap (λ i. next_of (node_at ns i) w) same.1 ∙ next in
          let l : (a < c.0) × (c.0 < length ns) = next-later ns w a c L lt from in
          or_right (a == c.0) _ (on_by_rest (next_of (node_at ns a) w) (way_in f ns w) c.0 c from (way_in-first f ns w c.0 (omega (arith, l.0, l.1, q))))
      | inr other ↦
          let rest : (d : HashNo) × (next_of (node_at ns a) w ≡ Some d) × (is_on (way_in f ns w d.0) p ≡ true) =
          rest-on (next_of (node_at ns a) w) (way_in f ns w) p (sym (on_rest a p _ other.1) ∙ e) in
          let l : (a < rest.0.0) × (rest.0.0 < length ns) = next-later ns w a rest.0 L lt rest.1 in
          or_right (a == c.0) _ (on_by_rest (next_of (node_at ns a) w) (way_in f ns w) c.0 rest.0 rest.1
          (way_in-child f ns w rest.0.0 p c L l.1 (omega (arith, l.0, q)) rest.2 next))
    ]

both-rest : (o : Option HashNo) (F : ℕ → List ℕ) (i k : ℕ) → is_on (option_map_or (λ c. F c.0) o []) i ≡ true
    → is_on (option_map_or (λ c. F c.0) o []) k ≡ true
    → ((c : HashNo) → o ≡ Some c → is_on (F c.0) i ≡ true → is_on (F c.0) k ≡ true → i ≡ k) → i ≡ k
both-rest None F i k p q h = absurd cc
both-rest (Some c) F i k p q h = h c refl p q

-- a way has one end
pub way_in-end : (f : ℕ) (ns : List NodeView) (w : Hash64) (a i k : ℕ)
    → is_on (way_in f ns w a) i ≡ true → is_on (way_in f ns w a) k ≡ true
    → next_of (node_at ns i) w ≡ None → next_of (node_at ns k) w ≡ None → i ≡ k
way_in-end zero ns w a i k p q ei ek = absurd cc
way_in-end (suc f) ns w a i k p q ei ek =
    elim (eqb_tells a i) [
      | inl same ↦ elim (eqb_tells a k) [
        | inl also ↦ sym same.1 ∙ also.1
        | inr other ↦
            let rest : (d : HashNo) × (next_of (node_at ns a) w ≡ Some d) × (is_on (way_in f ns w d.0) k ≡ true) =
            rest-on (next_of (node_at ns a) w) (way_in f ns w) k (sym (on_rest a k _ other.1) ∙ q) in
            absurd (none-some rest.0 (sym ei ∙ ap (λ j. next_of (node_at ns j) w) (sym same.1) ∙ rest.1))
      ]
      | inr apart ↦ elim (eqb_tells a k) [
        | inl also ↦
            let rest : (d : HashNo) × (next_of (node_at ns a) w ≡ Some d) × (is_on (way_in f ns w d.0) i ≡ true) =
            rest-on (next_of (node_at ns a) w) (way_in f ns w) i (sym (on_rest a i _ apart.1) ∙ p) in
            absurd (none-some rest.0 (sym ek ∙ ap (λ j. next_of (node_at ns j) w) (sym also.1) ∙ rest.1))
        | inr other ↦
            both-rest (next_of (node_at ns a) w) (way_in f ns w) i k (sym (on_rest a i _ apart.1) ∙ p) (sym (on_rest a k _ other.1) ∙ q)
            (λ c e r s. way_in-end f ns w c.0 i k r s ei ek)
      ]
    ]

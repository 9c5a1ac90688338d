-- A node before and after a new point is below it.
use Rattle.std.proofs.Common.{◌≡◌, ◌∙◌, ℕ, ◌+◌, ◌<◌, ◌≤◌, nat_le, not, Bool, true, false, cond, Option, Some, None, unwrap_or, ◌⊎◌, inl, inr, refl, sym, ap, arith}
use Rattle.std.specs.Option.{option_map_or}
use Rattle.std.proofs.lemmas.Bool.{both_ways, cond_both, leb-false, leb-true, not-true}
use Rattle.std.proofs.lemmas.Option.{same_Some}
use Rattle.media_types.specs.Distance.{distance_of}
use Rattle.media_types.specs.declared.hash.Hash64.{Hash64}
use Rattle.media_types.specs.declared.numbers.HashNo.{HashNo}
use Rattle.vp_tree.specs.declared.node.NodeView.{NodeView}
use Rattle.vp_tree.specs.Placing.{is_within, next_of, grown_by, grown}
use Rattle.vp_tree.specs.Shape.{Side, inward, outward, part}

-- the word leads to this side of a node with or without a radius
abbrev leads_in : Option ℕ → NodeView → Hash64 → Bool
leads_in o v w = option_map_or (λ r. is_within v r w) o true

abbrev leads_at : Side → Option ℕ → NodeView → Hash64 → Bool
leads_at inward o v w = leads_in o v w
leads_at outward o v w = not (leads_in o v w)

abbrev pub leads : Side → NodeView → Hash64 → Bool
leads s v w = leads_at s v.radius v w

abbrev pub IsBare : NodeView → Type 0
IsBare v = (s : Side) → v.radius ≡ None → part s v ≡ None

-- what hangs on a side where the word leads to it, and where it does not
abbrev pub hung : Bool → HashNo → Option HashNo → Option HashNo
hung b number o = cond b (Some (unwrap_or o number)) o

abbrev grown_at : Option ℕ → HashNo → Hash64 → NodeView → NodeView
grown_at o number w v =
    option_map_or (grown_by number w v) o (record v { radius = Some (distance_of w v.word); inner = Some number; below = v.below + 1 })

if-part : (s : Side) (b : Bool) (x y : NodeView) → part s (cond b x y) ≡ cond b (part s x) (part s y)
if-part s true x y = refl
if-part s false x y = refl

turned : (b : Bool) (x y : Option HashNo) → cond b x y ≡ cond (not b) y x
turned true x y = refl
turned false x y = refl

word-at : (o : Option ℕ) (number : HashNo) (w : Hash64) (v : NodeView) → (grown_at o number w v).word ≡ v.word
word-at None number w v = refl
word-at (Some r) number w v = cond_both (is_within v r w) _ _ (λ (x : NodeView). x.word ≡ v.word) (λ _. refl) (λ _. refl)

pub grown-word : (number : HashNo) (w : Hash64) (v : NodeView) → (grown number w v).word ≡ v.word
grown-word number w v = word-at v.radius number w v

below-at : (o : Option ℕ) (number : HashNo) (w : Hash64) (v : NodeView) → (grown_at o number w v).below ≡ v.below + 1
below-at None number w v = refl
below-at (Some r) number w v = cond_both (is_within v r w) _ _ (λ (x : NodeView). x.below ≡ v.below + 1) (λ _. refl) (λ _. refl)

pub grown-below : (number : HashNo) (w : Hash64) (v : NodeView) → (grown number w v).below ≡ v.below + 1
grown-below number w v = below-at v.radius number w v

radius-at : (o : Option ℕ) (number : HashNo) (w : Hash64) (v : NodeView) → v.radius ≡ o
    → (grown_at o number w v).radius ≡ Some (unwrap_or o (distance_of w v.word))
radius-at None number w v e = refl
radius-at (Some r) number w v e = cond_both (is_within v r w) _ _ (λ (x : NodeView). x.radius ≡ Some r) (λ _. e) (λ _. e)

pub grown-radius : (number : HashNo) (w : Hash64) (v : NodeView) → (grown number w v).radius ≡ Some (unwrap_or v.radius (distance_of w v.word))
grown-radius number w v = radius-at v.radius number w v refl

part-at : (s : Side) (o : Option ℕ) (number : HashNo) (w : Hash64) (v : NodeView) → (o ≡ None → part s v ≡ None)
    → part s (grown_at o number w v) ≡ hung (leads_at s o v w) number (part s v)
part-at inward None number w v bare = rw (bare refl) refl
part-at outward None number w v bare = refl
part-at inward (Some r) number w v bare = if-part inward (is_within v r w) _ _
part-at outward (Some r) number w v bare = if-part outward (is_within v r w) _ _ ∙ turned (is_within v r w) v.outer (Some (unwrap_or v.outer number))

pub grown-part : (s : Side) (number : HashNo) (w : Hash64) (v : NodeView) → IsBare v → part s (grown number w v) ≡ hung (leads s v w) number (part s v)
grown-part s number w v bare = part-at s v.radius number w v (bare s)

next-at : (s : Side) (o : Option ℕ) (v : NodeView) (w : Hash64) → (o ≡ None → part s v ≡ None) → leads_at s o v w ≡ true
    → option_map_or (λ r. cond (is_within v r w) v.inner v.outer) o None ≡ part s v
next-at inward None v w bare e = sym (bare refl)
next-at outward None v w bare e = absurd cc
next-at inward (Some r) v w bare e = ap (λ b. cond b v.inner v.outer) e
next-at outward (Some r) v w bare e = ap (λ b. cond b v.inner v.outer) (not-true (is_within v r w) e)

-- a word leads to the part on its side
pub next-leads : (s : Side) (v : NodeView) (w : Hash64) → IsBare v → leads s v w ≡ true → next_of v w ≡ part s v
next-leads s v w bare e = next-at s v.radius v w (bare s) e

side_by : (b : Bool) (o : Option ℕ) (v : NodeView) (w : Hash64) → leads_in o v w ≡ b → (s : Side) × (leads_at s o v w ≡ true)
side_by true o v w e = (inward, e)
side_by false o v w e = (outward, ap not e)

-- each word leads to one side
pub side_of : (v : NodeView) (w : Hash64) → (s : Side) × (leads s v w ≡ true)
side_of v w = side_by (leads_in v.radius v w) v.radius v w refl

pub one_side : (s t : Side) (v : NodeView) (w : Hash64) → leads s v w ≡ true → leads t v w ≡ true → s ≡ t
one_side inward inward v w p q = refl
one_side inward outward v w p q = absurd (both_ways (leads_in v.radius v w) (not-true (leads_in v.radius v w) q) p)
one_side outward inward v w p q = absurd (both_ways (leads_in v.radius v w) (not-true (leads_in v.radius v w) p) q)
one_side outward outward v w p q = refl

near-at : (o : Option ℕ) (v : NodeView) (w : Hash64) → leads_at inward o v w ≡ true → distance_of w v.word ≤ unwrap_or o (distance_of w v.word)
near-at None v w e = omega arith
near-at (Some r) v w e = leb-true (distance_of w v.word) r e

far-at : (o : Option ℕ) (v : NodeView) (w : Hash64) → leads_at outward o v w ≡ true → unwrap_or o (distance_of w v.word) < distance_of w v.word
far-at None v w e = absurd cc
far-at (Some r) v w e = leb-false (distance_of w v.word) r (not-true (nat_le (distance_of w v.word) r) e)

-- the new point lies on the side to which its word leads
pub grown-near : (number : HashNo) (w : Hash64) (v : NodeView) (r : ℕ) → leads inward v w ≡ true → (grown number w v).radius ≡ Some r → distance_of w v.word ≤ r
grown-near number w v r e f =
    let is : unwrap_or v.radius (distance_of w v.word) ≡ r = same_Some _ r (sym (grown-radius number w v) ∙ f) in
    omega (arith, is, near-at v.radius v w e)

pub grown-far : (number : HashNo) (w : Hash64) (v : NodeView) (r : ℕ) → leads outward v w ≡ true → (grown number w v).radius ≡ Some r → r < distance_of w v.word
grown-far number w v r e f =
    let is : unwrap_or v.radius (distance_of w v.word) ≡ r = same_Some _ r (sym (grown-radius number w v) ∙ f) in
    omega (arith, is, far-at v.radius v w e)

-- what hangs on a side hung there before, or is the new point
pub hung-child : (o : Option HashNo) (b : Bool) (number c : HashNo) → hung b number o ≡ Some c
    → (o ≡ Some c) ⊎ ((b ≡ true) × (o ≡ None) × (c ≡ number))
hung-child None true number c e = inr (refl, refl, sym (same_Some number c e))
hung-child None false number c e = absurd cc
hung-child (Some d) true number c e = inl e
hung-child (Some d) false number c e = inl e

-- All tags are whole clusters, also once plans are carried out.
use Rattle.std.proofs.Common.{◌≡◌, ◌∙◌, ℕ, zero, suc, ◌+◌, ◌<◌, ◌≤◌, ◌==◌, true, Bor, Option, Some, None, List, [], ◌∷◌, ◌++◌, filter, refl, sym, ap, subst, inl, inr, arith, All}
use Rattle.std.specs.List.{AllByRecursion, range_with_len}
use Rattle.std.specs.Option.{ForSome, option_map}
use Rattle.std.proofs.lemmas.Bool.{cases_lt, eq-eqb, or_left, or_right}
use Rattle.std.proofs.lemmas.List.Elements.{All-from_recursion, recursion_from_All}
use Rattle.sibling_chains.specs.Clusters.{IsClosed}
use Rattle.sibling_chains.specs.Known.{Known}
use Rattle.sibling_chains.specs.Planning.{IsChangeFor as IsSiblingChangeFor, IsPlanFor as IsSiblingPlanFor, after as siblings_after, changed as siblings_changed}
use Rattle.sibling_chains.specs.Recorded.{removed_at}
use Rattle.sibling_chains.specs.declared.relation_row.RelationRow.{RelationRow}
use Rattle.sibling_chains.specs.declared.sibling_plan.Change.{Change as SiblingChange}
use Rattle.sibling_chains.specs.declared.sibling_plan.Change.TheVariants.{Add as AddSibling, Remove as RemoveSibling, Tie, Order as OrderSiblings}
use Rattle.sibling_chains.specs.declared.sibling_plan.SiblingPlan.{SiblingPlan}
use Rattle.parent_closure.specs.declared.parent_plan.Change.{Change}
use Rattle.parent_closure.specs.declared.parent_plan.Change.TheVariants.{Add, Remove, Order}
use Rattle.parent_closure.specs.declared.parent_plan.ParentPlan.{ParentPlan}
use Rattle.parent_closure.specs.Ancestors.{Relations}
use Rattle.parent_closure.specs.CountLaws.{AreDifferent, picked-different}
use Rattle.parent_closure.specs.Implied.{chained, planned, relations_of}
use Rattle.parent_closure.specs.Kept.{Kept}
use Rattle.parent_closure.specs.Planning.{IsChangeFor, IsPlanFor, after, changed}
use Rattle.parent_closure.specs.Reached.{has}
use Rattle.parent_closure.specs.Sets.{IsClosedFor}

-- the row names no other tags than the first n
abbrev IsBelow : ℕ → RelationRow → Type 0
IsBelow n row = (row.first.0 < n) × (row.second.0 < n)

has-from : (t n from : ℕ) → from ≤ t → t < from + n → has (range_with_len from n) t ≡ true
has-from t zero from le lt = absurd (omega (arith, le, lt))
has-from t (suc n) from le lt = elim (cases_lt from t) [
  | inl more ↦ or_right (t == from) (has (range_with_len (from + 1) n) t) (has-from t n (from + 1) (omega (arith, more)) (omega (arith, lt)))
  | inr here ↦ or_left (t == from) (has (range_with_len (from + 1) n) t) (eq-eqb t from (omega (arith, here, le)))
]

pub has-below : (n t : ℕ) → t < n → has (range_with_len 0 n) t ≡ true
has-below n t lt = has-from t n 0 (omega arith) (omega (arith, lt))

pub all-different : (n : ℕ) → AreDifferent (range_with_len 0 n)
all-different n = ap-different (whole (range_with_len 0 n)) (picked-different (λ t. true) n)
  where
    whole : (list : List ℕ) → filter (λ t. true) list ≡ list
    whole [] = refl
    whole (t ∷ list) = ap (λ l. t ∷ l) (whole list)

    ap-different : {xs ys : List ℕ} → xs ≡ ys → AreDifferent xs → AreDifferent ys
    ap-different e h = rw (← e) h

closed-below : (n : ℕ) (rows : List RelationRow) → AllByRecursion (IsBelow n) rows → IsClosed (has (range_with_len 0 n)) rows
closed-below n rows h = All-from_recursion (λ (row : RelationRow). has (range_with_len 0 n) row.first.0 ≡ has (range_with_len 0 n) row.second.0) rows (each rows h)
  where
    each : (rows : List RelationRow) → AllByRecursion (IsBelow n) rows → AllByRecursion (λ row. has (range_with_len 0 n) row.first.0 ≡ has (range_with_len 0 n) row.second.0) rows
    each [] h = tt
    each (row ∷ rows) h = (has-below n row.first.0 h.0.0 ∙ sym (has-below n row.second.0 h.0.1), each rows h.1)

-- ---- the rows once a change is carried out
below-removed : (n at : ℕ) (rows : List RelationRow) → AllByRecursion (IsBelow n) rows → AllByRecursion (IsBelow n) (removed_at at rows)
below-removed n at [] h = tt
below-removed n zero (row ∷ rows) h = h
below-removed n (suc at) (row ∷ rows) h = (h.0, below-removed n at rows h.1)

below-added : (n : ℕ) (rows : List RelationRow) (row : RelationRow) → AllByRecursion (IsBelow n) rows → IsBelow n row → AllByRecursion (IsBelow n) (rows ++ row ∷ [])
below-added n [] row h new = (new, tt)
below-added n (r ∷ rows) row h new = (h.0, below-added n rows row h.1 new)

below-changed : (change : Change) (v : Kept) → IsChangeFor change v → AllByRecursion (IsBelow v.tags) v.rows → AllByRecursion (IsBelow v.tags) (changed change v).rows
below-changed (Add row) v fits h = below-added v.tags v.rows row h (fits.child, fits.parent)
below-changed (Remove it) v fits h = below-removed v.tags it.number v.rows h
below-changed (Order it) v fits h = h

below-planned : (plan : Option (Bor ParentPlan)) (v : Kept) → ForSome plan (λ p. IsPlanFor p.now v) → AllByRecursion (IsBelow v.tags) v.rows
    → AllByRecursion (IsBelow v.tags) (planned (option_map (λ (p : Bor ParentPlan). p.now) plan) v).rows
unfolding after IsPlanFor
below-planned None v fits h = h
below-planned (Some p) v fits h = below-changed p.now.change v (fits p refl) h

siblings-changed : (change : SiblingChange) (w : Known) → IsSiblingChangeFor change w → AllByRecursion (IsBelow w.tags) w.rows → AllByRecursion (IsBelow w.tags) (siblings_changed change w).rows
siblings-changed (AddSibling it) w fits h = below-added w.tags w.rows _ h (fits.bad, fits.good)
siblings-changed (RemoveSibling it) w fits h = below-removed w.tags _ w.rows h
siblings-changed (Tie it) w fits h = h
siblings-changed (OrderSiblings it) w fits h = h

below-chained : (plan : Option (Bor SiblingPlan)) (w : Known) → ForSome plan (λ p. IsSiblingPlanFor p.now w) → AllByRecursion (IsBelow w.tags) w.rows
    → AllByRecursion (IsBelow w.tags) (chained (option_map (λ (p : Bor SiblingPlan). p.now) plan) w).rows
unfolding siblings_after IsSiblingPlanFor
below-chained None w fits h = h
below-chained (Some p) w fits h = siblings-changed p.now.change w (fits p refl) h

pub all-closed : (plan : Option (Bor ParentPlan)) (v : Kept) (chains : Option (Bor SiblingPlan)) (w : Known) (s : ℕ)
    → ForSome plan (λ p. IsPlanFor p.now v) → ForSome chains (λ p. IsSiblingPlanFor p.now w)
    → All (IsBelow v.tags) v.rows → All (IsBelow w.tags) w.rows → v.tags ≡ w.tags
    → IsClosedFor (has (range_with_len 0 v.tags)) (relations_of (planned (option_map (λ (p : Bor ParentPlan). p.now) plan) v) (chained (option_map (λ (p : Bor SiblingPlan). p.now) chains) w) s)
all-closed plan v chains w s fits binds parents siblings same = (
  (let h = below-chained chains w binds (recursion_from_All (IsBelow w.tags) w.rows siblings) in
      rw same (closed-below w.tags (chained (option_map (λ (p : Bor SiblingPlan). p.now) chains) w).rows h)),
  closed-below v.tags (planned (option_map (λ (p : Bor ParentPlan). p.now) plan) v).rows (below-planned plan v fits (recursion_from_All (IsBelow v.tags) v.rows parents)),
)

-- the same tags in a list that is read
pub closed-read : (list tags : List ℕ) (R : Relations) → list ≡ tags → IsClosedFor (has tags) R → IsClosedFor (has list) R
closed-read list tags R same h = subst (λ (l : List ℕ). IsClosedFor (has l) R) (sym same) h

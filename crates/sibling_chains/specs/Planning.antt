-- Plans: what a change of the siblings comes to, and when it can be carried out.
use Rattle.std.specs.Prelude.{◌≡◌, ◌<◌, ◌≤◌, ℕ, true, List, [], ◌∷◌, ◌++◌, length, None, IsSome, slice_set}
use Rattle.sibling_chains.specs.declared.relation_row.RelationRow.{RelationRow}
use Rattle.sibling_chains.specs.declared.sibling_plan.Adding.{Adding}
use Rattle.sibling_chains.specs.declared.sibling_plan.Change.{Change}
use Rattle.sibling_chains.specs.declared.sibling_plan.Change.TheVariants.{Add, Remove, Tie, Order}
use Rattle.sibling_chains.specs.declared.sibling_plan.Ordered.{Ordered}
use Rattle.sibling_chains.specs.declared.sibling_plan.Refold.{Refold}
use Rattle.sibling_chains.specs.declared.sibling_plan.Removing.{Removing}
use Rattle.sibling_chains.specs.declared.sibling_plan.SiblingPlan.{SiblingPlan}
use Rattle.sibling_chains.specs.declared.sibling_plan.Tying.{Tying}
use Rattle.sibling_chains.specs.Clustered.{IsClusterOf}
use Rattle.sibling_chains.specs.Clusters.{rows_within}
use Rattle.sibling_chains.specs.Ends.{at}
use Rattle.sibling_chains.specs.Following.{good_of}
use Rattle.sibling_chains.specs.Known.{AreEndsFor, Known, clustered_of, is_in_two}
use Rattle.sibling_chains.specs.Recorded.{ideal, pairs_of, removed_at, standing_place}

-- the row that is recorded
abbrev pub row_of : Adding → RelationRow
row_of it = record { service = it.service; first = it.bad; second = it.good; standing = true }

-- what the siblings are, once a change is carried out
abbrev pub changed : Change → Known → Known
changed (Add it) v = record v { rows = v.rows ++ row_of it ∷ [] }
changed (Remove it) v = record v { rows = removed_at (standing_place it.service.0 it.bad.0 v.rows) v.rows }
changed (Tie it) v = record v { ties = v.ties ++ (it.a.0, it.b.0) ∷ [] }
changed (Order it) v = record v { orders = slice_set v.orders it.service.0 it.order }

unfoldable pub after : SiblingPlan → Known → Known
after plan v = changed plan.change v

-- the clusters of two tags, and the ends that their tags will have by these rows
pub record IsRefold (v : Known) (a b : ℕ) (rows : List RelationRow) (it : Refold) : Type 0 where
  pub cluster : IsClusterOf (clustered_of v) a b it.cluster
  pub ends : AreEndsFor it.cluster.tags.items (rows_within (is_in_two v a b) rows) v.orders it.ends.items (length v.orders)

pub record IsAdding (v : Known) (it : Adding) : Type 0 where
  pub service : it.service.0 < length v.orders
  pub bad : it.bad.0 < v.tags
  pub good : it.good.0 < v.tags
  pub new : good_of (pairs_of v.rows it.service) it.bad.0 ≡ None
  pub room : 1 ≤ v.row_room
  pub refold : IsRefold v it.bad.0 it.good.0 (v.rows ++ row_of it ∷ []) it.refold

pub record IsRemoving (v : Known) (it : Removing) : Type 0 where
  pub bad : it.bad.0 < v.tags
  pub stands : IsSome (good_of (pairs_of v.rows it.service) it.bad.0)
  pub room : 1 ≤ v.row_room
  pub refold : IsRefold v it.bad.0 it.bad.0 (removed_at (standing_place it.service.0 it.bad.0 v.rows) v.rows) it.refold

pub record IsTying (v : Known) (it : Tying) : Type 0 where
  pub a : it.a.0 < v.tags
  pub b : it.b.0 < v.tags
  pub room : 1 ≤ v.row_room
  pub cluster : IsClusterOf (clustered_of v) it.a.0 it.b.0 it.cluster

pub record IsOrdering (v : Known) (it : Ordered) : Type 0 where
  pub service : it.service.0 < length v.orders
  pub ends : (t : ℕ) → at it.ends t ≡ ideal it.order v.rows t

-- a change can be carried out
abbrev pub IsChangeFor : Change → Known → Type 0
IsChangeFor (Add it) v = IsAdding v it
IsChangeFor (Remove it) v = IsRemoving v it
IsChangeFor (Tie it) v = IsTying v it
IsChangeFor (Order it) v = IsOrdering v it

-- the plan was made of these siblings
unfoldable pub IsPlanFor : SiblingPlan → Known → Type 0
IsPlanFor plan v = IsChangeFor plan.change v

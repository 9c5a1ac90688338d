-- Plans: what a change of the parents comes to, and when it can be carried out.
use Rattle.std.specs.Prelude.{◌≡◌, ◌<◌, ◌≤◌, ℕ, [], ◌∷◌, ◌++◌, length, slice_set, Option, Some, None}
use Rattle.sibling_chains.specs.declared.relation_row.RelationRow.{RelationRow}
use Rattle.sibling_chains.specs.Recorded.{removed_at}
use Rattle.parent_closure.specs.declared.parent_plan.Change.{Change}
use Rattle.parent_closure.specs.declared.parent_plan.Change.TheVariants.{Add, Remove, Order}
use Rattle.parent_closure.specs.declared.parent_plan.ParentPlan.{ParentPlan}
use Rattle.parent_closure.specs.declared.parent_plan.Removing.{Removing}
use Rattle.parent_closure.specs.Kept.{Kept}

-- what the parents are, once a change is carried out
abbrev pub changed : Change → Kept → Kept
changed (Add row) v = record v { rows = v.rows ++ row ∷ [] }
changed (Remove it) v = record v { rows = removed_at it.number v.rows }
changed (Order it) v = record v { orders = slice_set v.orders it.service.0 it.order }

unfoldable pub after : ParentPlan → Kept → Kept
after plan v = changed plan.change v

pub record IsAdding (v : Kept) (row : RelationRow) : Type 0 where
  pub child : row.first.0 < v.tags
  pub parent : row.second.0 < v.tags
  pub room : 1 ≤ v.row_room

pub record IsRemoving (v : Kept) (it : Removing) : Type 0 where
  pub within : it.number < length v.rows
  pub gone : slice_set v.rows it.number it.row ≡ removed_at it.number v.rows

-- a change can be carried out
abbrev pub IsChangeFor : Change → Kept → Type 0
IsChangeFor (Add row) v = IsAdding v row
IsChangeFor (Remove it) v = IsRemoving v it
IsChangeFor (Order it) v = it.service.0 < length v.orders

-- the plan was made of these parents
unfoldable pub IsPlanFor : ParentPlan → Kept → Type 0
IsPlanFor plan v = IsChangeFor plan.change v

-- the number of the row that a change removes, where it removes one
abbrev pub gone_of : Change → Option ℕ
gone_of (Add row) = None
gone_of (Remove it) = Some it.number
gone_of (Order it) = None

-- the row that a change records, where it records one
abbrev pub added_of : Change → Option RelationRow
added_of (Add row) = Some row
added_of (Remove it) = None
added_of (Order it) = None

-- What the tags of a service imply, read from the siblings and the parents, as they are or once plans are carried out.
use Rattle.std.specs.Prelude.{ℕ, List, [], map, Option, Some, None, slice_index_or}
use Rattle.media_types.specs.declared.numbers.ServiceNo.{ServiceNo}
use Rattle.sibling_chains.specs.declared.sibling_plan.SiblingPlan.{SiblingPlan}
use Rattle.sibling_chains.specs.declared.relation_row.RelationRow.{RelationRow}
use Rattle.sibling_chains.specs.Following.{Pair}
use Rattle.sibling_chains.specs.Known.{Known, ideal_in, order_of}
use Rattle.sibling_chains.specs.Planning.{after as siblings_after}
use Rattle.sibling_chains.specs.Recorded.{pairs_of}
use Rattle.parent_closure.specs.declared.parent_plan.ParentPlan.{ParentPlan}
use Rattle.parent_closure.specs.Ancestors.{Relations, between_ideals}
use Rattle.parent_closure.specs.Kept.{Kept}
use Rattle.parent_closure.specs.Planning.{added_of, after, gone_of}

-- what is known of the tags of a service
abbrev pub relations_of : Kept → Known → ℕ → Relations
relations_of v w s = record { sibling_order = order_of w s; parent_order = slice_index_or v.orders s []; siblings = w.rows; parents = v.rows }

-- the parents, once a plan is carried out, where there is one
abbrev pub planned : Option ParentPlan → Kept → Kept
planned None v = v
planned (Some plan) v = after plan v

-- the number of the row that a plan removes, and the row that it records, where there are such
abbrev pub gone_by : Option ParentPlan → Option ℕ
gone_by None = None
gone_by (Some plan) = gone_of plan.change

abbrev pub added_by : Option ParentPlan → Option RelationRow
added_by None = None
added_by (Some plan) = added_of plan.change

-- the siblings, once a plan is carried out, where there is one
abbrev pub chained : Option SiblingPlan → Known → Known
chained None w = w
chained (Some plan) w = siblings_after plan w

-- the pairs of one service, read between the ideal tags of another
abbrev pub steps_by : Known → ℕ → List RelationRow → ServiceNo → List Pair
steps_by w s rows of = map (between_ideals (ideal_in w s)) (pairs_of rows of)

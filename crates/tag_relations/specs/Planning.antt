-- Plans: what a change of siblings or parents comes to, which tags it touches, and when it can be carried out.
use Rattle.std.specs.Prelude.{◌≡◌, ◌<◌, ◌≤◌, ℕ, List, length}
use Rattle.std.specs.Option.{ForSome}
use Rattle.parent_closure.specs.CountLaws.{AreDifferent}
use Rattle.parent_closure.specs.Implied.{chained, planned}
use Rattle.parent_closure.specs.Planning.{IsPlanFor as IsParentPlanFor}
use Rattle.parent_closure.specs.Planning.{after as parents_after}
use Rattle.parent_closure.specs.LimitLaws.{AreBelow}
use Rattle.parent_closure.specs.Reached.{has}
use Rattle.sibling_chains.specs.Clusters.{IsClosed, outside, rows_within}
use Rattle.sibling_chains.specs.Planning.{IsPlanFor as IsSiblingPlanFor}
use Rattle.sibling_chains.specs.Planning.{after as siblings_after}
use Rattle.tag_types.specs.declared.limits.TheConstants.{MAX_RELATIONS}
use Rattle.tag_relations.specs.declared.plans.OrderPlan.{OrderPlan}
use Rattle.tag_relations.specs.declared.plans.RelationPlan.{RelationPlan}
use Rattle.tag_relations.specs.Related.{AreTied, Related}

-- both, once a plan for a pair is carried out
abbrev pub after : RelationPlan → Related → Related
after plan v = record { siblings = chained plan.siblings v.siblings; parents = planned plan.parents v.parents }

-- both, once a plan for the orders of a service is carried out
abbrev pub after_orders : OrderPlan → Related → Related
after_orders plan v = record { siblings = siblings_after plan.siblings v.siblings; parents = parents_after plan.parents v.parents }

-- both kinds of rows have both tags among these, or neither
pub record AreClosed (tags : List ℕ) (v : Related) : Type 0 where
  pub siblings : IsClosed (has tags) v.siblings.rows
  pub parents : IsClosed (has tags) v.parents.rows

-- a change from one to another is within these tags
pub record IsWithin (tags : List ℕ) (old new : Related) : Type 0 where
  pub different : AreDifferent tags
  pub before : AreClosed tags old
  pub after : AreClosed tags new
  pub siblings : rows_within (outside (has tags)) new.siblings.rows ≡ rows_within (outside (has tags)) old.siblings.rows
  pub parents : rows_within (outside (has tags)) new.parents.rows ≡ rows_within (outside (has tags)) old.parents.rows
  pub sibling_orders : new.siblings.orders ≡ old.siblings.orders
  pub parent_orders : new.parents.orders ≡ old.parents.orders

-- the plan was made of these, and what it touches are whole clusters
pub record IsPlanFor (plan : RelationPlan) (v : Related) : Type 0 where
  pub siblings : ForSome plan.siblings (λ p. IsSiblingPlanFor p v.siblings)
  pub parents : ForSome plan.parents (λ p. IsParentPlanFor p v.parents)
  pub known : AreBelow v.siblings.tags v.siblings.rows × AreBelow v.siblings.tags v.parents.rows
  pub before : AreTied v
  pub tied : AreTied (after plan v)
  pub within : IsWithin plan.touched.items v (after plan v)

-- the plan was made of these, and changes the orders of a service alone
pub record IsOrderPlanFor (plan : OrderPlan) (v : Related) : Type 0 where
  pub service : plan.service.0 < length v.siblings.orders
  pub siblings : IsSiblingPlanFor plan.siblings v.siblings
  pub parents : IsParentPlanFor plan.parents v.parents
  pub tied : AreTied (after_orders plan v)
  pub sibling_rows : (after_orders plan v).siblings.rows ≡ v.siblings.rows
  pub parent_rows : (after_orders plan v).parents.rows ≡ v.parents.rows

-- so many rows can be kept
pub record AreFew (v : Related) : Type 0 where
  pub siblings : length v.siblings.rows ≤ MAX_RELATIONS
  pub parents : length v.parents.rows ≤ MAX_RELATIONS

-- What planned changes of tag pairs lead to.
use Rattle.std.specs.Prelude.{◌≡◌, ◌⊎◌, ◌<◌, ◌≤◌, ℕ, length, Option}
use Rattle.std.specs.Option.{option_map}
use Rattle.media_base.specs.declared.change.TagPair.{TagPair}
use Rattle.media_base.specs.declared.refusal.Unmet.{Unmet}
use Rattle.media_base.specs.declared.refusal.Unmet.TheVariants as whys
use Rattle.sibling_chains.specs.Known.{tags_of_two}
use Rattle.tag_relations.specs.declared.plans.OrderPlan.{OrderPlan}
use Rattle.tag_relations.specs.declared.plans.RelationPlan.{RelationPlan}
use Rattle.tag_relations.specs.Planning.{IsPlanFor, after_orders}
use Rattle.tag_relations.specs.Related.{relations_at}
use Rattle.tag_relations.specs.Planning.{after as relations_after}
use Rattle.tag_types.specs.declared.limits.TheConstants.{MAX_TAGS}
use Rattle.library_machine.specs.Records.{Records, Fits, all_relations, too_many}
use Rattle.library_machine.specs.Relating.{text_of, with_both}
use Rattle.library_tables.specs.declared.tag_pairs.PlannedPair.{PlannedPair}
use Rattle.library_tables.specs.Tables.{TablesView, records_of}

-- the records, once the tags of a pair are numbered and a plan for it is carried out
abbrev pub planned_records : TablesView → RelationPlan → TagPair → Records
planned_records t plan pair = record (records_of t) {
  tags = with_both t.tags.texts pair.first pair.second;
  siblings = (relations_after plan t.relations).siblings.rows;
  parents = (relations_after plan t.relations).parents.rows;
}

-- the plan touches the clusters of these two tags, and no other tag of the pair is new
pub record IsTouching (plan : RelationPlan) (pair : TagPair) (t : TablesView) (a b : ℕ) : Type 0 where
  pub planned : IsPlanFor plan t.relations
  pub touched : plan.touched.items ≡ tags_of_two t.relations.siblings a b
  pub known_a : a < t.relations.siblings.tags
  pub known_b : b < t.relations.siblings.tags
  pub below_a : a < length (with_both t.tags.texts pair.first pair.second)
  pub below_b : b < length (with_both t.tags.texts pair.first pair.second)
  pub new : (k : ℕ) → length t.tags.texts ≤ k → k < length (with_both t.tags.texts pair.first pair.second) → (k ≡ a) ⊎ (k ≡ b)

-- why records are refused in which a tag implies too many, where one does
abbrev pub over_told : Records → Option Unmet
over_told r = option_map (λ found. whys.TooManyImplied (record { 0 = found.0 }) (text_of r found.1)) (too_many r)

-- the records differ from those of the tables in what a plan makes of the orders of a service
pub record IsOrdered (plan : OrderPlan) (t : TablesView) (after : Records) : Type 0 where
  pub tags : after.tags ≡ t.tags.texts
  pub siblings : after.siblings ≡ t.relations.siblings.rows
  pub parents : after.parents ≡ t.relations.parents.rows
  pub count : length after.services ≡ length t.services
  pub relations : (s : ℕ) → all_relations after s ≡ relations_at (after_orders plan t.relations) s
  pub others : (s : ℕ) → (s ≡ plan.service.0 → ⊥) → all_relations after s ≡ all_relations (records_of t) s

-- the pair can be recorded or removed, and then these are the records
pub record LeadsPair (plan : PlannedPair) (t : TablesView) (after : Records) : Type 0 where
  pub few : length (with_both t.tags.texts plan.pair.first plan.pair.second) ≤ MAX_TAGS
  pub room : 2 ≤ t.tags.spare
  pub planned : IsPlanFor plan.relations t.relations
  pub fits : Fits after
  pub leads : after ≡ planned_records t plan.relations plan.pair

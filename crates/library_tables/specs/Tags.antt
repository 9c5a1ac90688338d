-- What planned changes of services and mappings lead to.
use Rattle.std.specs.Prelude.{◌≡◌, ◌<◌, ◌≤◌, ℕ, true, false, List, [], ◌∷◌, ◌++◌, length, slice_set, Option, Some, None}
use Rattle.media_types.specs.declared.numbers.TagNo.{TagNo}
use Rattle.media_base.specs.declared.change.Mapping.{Mapping}
use Rattle.media_base.specs.declared.reply.FileMappings.{FileMappings}
use Rattle.tag_types.specs.declared.map_state.MapState.{MapState}
use Rattle.tag_types.specs.declared.map_state.MapState.TheVariants as states
use Rattle.tag_types.specs.declared.limits.TheConstants.{MAX_SERVICES, MAX_TAGS}
use Rattle.tag_store.specs.Numbering.{is_tag, number_or_next}
use Rattle.tag_relations.specs.Planning.{IsOrderPlanFor, after_orders}
use Rattle.library_machine.specs.Records.{Records, Fits}
use Rattle.library_machine.specs.Tagging.{texts_with, with_mapping, with_orders, with_service}
use Rattle.library_tables.specs.declared.tags.PlannedMapping.{PlannedMapping}
use Rattle.library_tables.specs.declared.tags.PlannedOrders.{PlannedOrders}
use Rattle.library_tables.specs.Tables.{TablesView, records_of}

-- a service can be added, and then these are the records
pub record LeadsService (t : TablesView) (after : Records) : Type 0 where
  pub few : length t.services < MAX_SERVICES
  pub sibling_room : 1 ≤ t.relations.siblings.service_room
  pub parent_room : 1 ≤ t.relations.parents.service_room
  pub fits : Fits after
  pub leads : after ≡ with_service (records_of t)

-- so can these orders be set
pub record LeadsOrders (plan : PlannedOrders) (t : TablesView) (after : Records) : Type 0 where
  pub known : plan.service.0 < length t.services
  pub planned : IsOrderPlanFor plan.relations t.relations
  pub siblings : (after_orders plan.relations t.relations).siblings.orders ≡ slice_set t.relations.siblings.orders plan.service.0 plan.orders.siblings
  pub parents : (after_orders plan.relations t.relations).parents.orders ≡ slice_set t.relations.parents.orders plan.service.0 plan.orders.parents
  pub fits : Fits after
  pub leads : after ≡ with_orders (records_of t) plan.service plan.orders

-- the tag of a plan has a number, or is new, and then there is room for it
abbrev pub HasTagRoom : Option (List ℕ) → List ℕ → TablesView → Type 0
HasTagRoom None text t = is_tag text t.tags.texts ≡ true
HasTagRoom (Some new) text t = (new ≡ text) × (is_tag text t.tags.texts ≡ false) × (length t.tags.texts < MAX_TAGS) × (1 ≤ t.tags.spare)

-- the plan is this mapping, with its tag's number, in room that was made
pub record IsReady (plan : PlannedMapping) (m : Mapping) (t : TablesView) : Type 0 where
  pub service : plan.service ≡ m.service
  pub file : plan.file ≡ m.file
  pub state : plan.state ≡ m.state
  pub tag : plan.tag.0 ≡ number_or_next m.tag t.tags.texts
  pub tag_room : HasTagRoom plan.new_tag m.tag t
  pub room : 1 ≤ t.mappings.spare

-- the mapping can be set, and then these are the records
pub record LeadsMapping (plan : PlannedMapping) (t : TablesView) (after : Records) : Type 0 where
  pub mapping : Mapping
  pub ready : IsReady plan mapping t
  pub fits : Fits after
  pub leads : after ≡ with_mapping (records_of t) mapping

-- what is told, with this text last among those whose mapping has this state
abbrev pub with_text : FileMappings → MapState → List ℕ → FileMappings
with_text told states.Current text = record told { current = told.current ++ text ∷ [] }
with_text told states.Pending text = record told { pending = told.pending ++ text ∷ [] }
with_text told states.Deleted text = record told { deleted = told.deleted ++ text ∷ [] }

-- what is told, and then these tags
abbrev pub told_then : Records → FileMappings → List (TagNo × MapState) → FileMappings
told_then r told tags = record {
  current = told.current ++ texts_with r states.Current tags;
  pending = told.pending ++ texts_with r states.Pending tags;
  deleted = told.deleted ++ texts_with r states.Deleted tags;
}

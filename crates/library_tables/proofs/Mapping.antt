-- What is prepared for services and mappings is what the changes come to.
use Rattle.std.proofs.Common.{◌≡◌, ◌<◌, ◌≤◌, ◌||◌, slice_set, inl, inr, ℕ, zero, suc, ◌&&◌, slice_get, Bool, true, false, not, nat_lt, Some, None, Ok, Err, Option, is_some, [], ◌∷◌, List, length, refl, ap, sym, ◌∙◌}
use Rattle.std.specs.List.{list_all}
use Rattle.std.specs.Option.{option_map_or}
use Rattle.std.proofs.lemmas.List.{length-set, map-set}
use Rattle.media_base.specs.declared.refusal.Unmet.{Unmet}
use Rattle.std.proofs.lemmas.Bool.{and_parts, ltb-true, both_ways}
use Rattle.media_types.specs.declared.numbers.ServiceNo.{ServiceNo}
use Rattle.media_base.specs.declared.change.Change.TheVariants as changes
use Rattle.media_base.specs.declared.change.Mapping.{Mapping}
use Rattle.media_base.specs.declared.refusal.Unmet.TheVariants as whys
use Rattle.media_base.specs.declared.reply.Answer.TheVariants as answers
use Rattle.tag_types.specs.declared.limits.TheConstants.{MAX_SERVICES, MAX_TAGS}
use Rattle.tag_types.specs.declared.map_state.MapState.{MapState}
use Rattle.tag_types.specs.declared.orders.Orders.{Orders}
use Rattle.tag_types.specs.Equality.{same_services, same_services-Decides}
use Rattle.tag_relations.specs.declared.plans.OrderPlan.{OrderPlan}
use Rattle.tag_relations.specs.Planning.{IsOrderPlanFor, after_orders}
use Rattle.tag_store.specs.Numbering.{HasPlaceFor, is_tag, number_of}
use Rattle.tag_store.specs.NumberingLaws.{is_numbered, numbered_there, tagged}
use Rattle.library_machine.specs.Changing.{answer_to, does, is_idle, mapping_needs, needs}
use Rattle.library_machine.specs.Effects.{effect}
use Rattle.library_machine.specs.Guards.{guarded}
use Rattle.library_machine.specs.GoodLaws.{changes_keep_fit}
use Rattle.library_machine.specs.Needs.{Need, has_file, has_service, has_tag, is_met, few_implied, room_for_mapping, room_for_tag, services_there, tag_there, unmet}
use Rattle.library_machine.specs.Records.{Records, Fits, too_many}
use Rattle.library_machine.specs.Tagging.{has_orders, is_mapped_so, mapping_told, numbered, services_named, with_orders}
use Rattle.library_tables.specs.declared.plan.Prepared.TheVariants as prepared
use Rattle.library_tables.specs.declared.plan.TablesPlan.TheVariants as plans
use Rattle.library_tables.specs.declared.tags.PlannedMapping.{PlannedMapping}
use Rattle.library_tables.specs.Preparing.{IsPrepared}
use Rattle.library_tables.specs.Relations.{IsOrdered, over_told}
use Rattle.library_tables.specs.Tables.{AreInStep, TablesView, records_of}
use Rattle.library_tables.proofs.Guarding.{done_by, over_none, over_some, refused_at}
use Rattle.library_tables.proofs.Pairing.{relations_same}
use Rattle.library_tables.specs.Tags.{IsReady}

-- ---- services

service_does : (r : Records) → nat_lt (length r.services) MAX_SERVICES ≡ true → does r changes.Service ≡ Ok false
unfolding needs is_idle
service_does r room = rw room refl

pub service_full : (r : Records) → nat_lt (length r.services) MAX_SERVICES ≡ false → does r changes.Service ≡ Err whys.FullServices
unfolding needs is_idle
service_full r full = rw full refl

pub service_prepared : (t : TablesView) (count : ℕ) → 1 ≤ t.relations.siblings.service_room → 1 ≤ t.relations.parents.service_room → Fits (records_of t) → nat_lt (length t.services) MAX_SERVICES ≡ true → count ≡ length t.services →
    IsPrepared changes.Service t (prepared.Ready plans.Service (answers.Service (record { 0 = count })))
unfolding effect answer_to
service_prepared t count spare parent_spare fits room is =
    let done = service_does (records_of t) room in (
      done,
      ap (λ (n : ℕ). answers.Service (record { 0 = n })) (sym is),
      record { few = ltb-true _ _ room; sibling_room = spare; parent_room = parent_spare; fits = changes_keep_fit (records_of t) changes.Service done fits; leads = refl },
      refl,
    )

-- ---- orders

pub orders_unknown : (r : Records) (service : ServiceNo) (orders : Orders) → list_all (has_service r) (services_named service orders) ≡ false →
    does r (changes.Orders service orders) ≡ Err whys.UnknownService
unfolding needs
orders_unknown r service orders there = refused_at r (changes.Orders service orders) [] (services_there (services_named service orders)) (few_implied (changes.Orders service orders) ∷ []) refl tt there

-- the service of the orders is there
pub service_known : (r : Records) (service : ServiceNo) (orders : Orders) → list_all (has_service r) (services_named service orders) ≡ true → service.0 < length r.services
service_known r service orders there = ltb-true _ _ ((and_parts (has_service r service) _ there).0)

-- what is set to what stands there stays
set_same : {A : Type 0} (xs : List A) (k : ℕ) (x : A) → slice_get xs k ≡ Some x → slice_set xs k x ≡ xs
set_same [] k x is = refl
set_same (y ∷ xs) zero x is = let same : y ≡ x = cc is in ap (λ z. z ∷ xs) (sym same)
set_same (y ∷ xs) (suc k) x is = ap (λ l. y ∷ l) (set_same xs k x is)

-- orders that a service has already leave the records as they are
same_orders : (r : Records) (service : ServiceNo) (orders : Orders) → has_orders r service orders ≡ true → with_orders r service orders ≡ r
same_orders r service orders has = by (slice_get r.services service.0) refl has
  where
    by : (found : Option Orders) → slice_get r.services service.0 ≡ found
        → option_map_or (λ now. same_services now.siblings orders.siblings && same_services now.parents orders.parents) found false ≡ true → with_orders r service orders ≡ r
    by None is e = absurd (cc e)
    by (Some now) is e =
        let parts = and_parts (same_services now.siblings orders.siblings) (same_services now.parents orders.parents) e in
        let siblings = (same_services-Decides now.siblings orders.siblings).0 parts.0 in
        let parents = (same_services-Decides now.parents orders.parents).0 parts.1 in
        let one : now ≡ orders = λ i. record { siblings = siblings i; parents = parents i } in
        ap (λ (services : List Orders). record r { services = services }) (set_same r.services service.0 orders (is ∙ ap Some one))

pub orders_idle : (t : TablesView) (service : ServiceNo) (orders : Orders) → Fits (records_of t) → list_all (has_service (records_of t)) (services_named service orders) ≡ true →
    has_orders (records_of t) service orders ≡ true → IsPrepared (changes.Orders service orders) t (prepared.Idle (answers.Service service))
unfolding needs is_idle effect answer_to
orders_idle t service orders fits there same =
    let few : not (is_some (too_many (with_orders (records_of t) service orders))) ≡ true =
    ap (λ (r : Records). not (is_some (too_many r))) (same_orders (records_of t) service orders same) ∙ ap (λ (found : Option (ℕ × ℕ)). not (is_some found)) fits.few_implied in
    (done_by (records_of t) (changes.Orders service orders) true (there, (few, tt)) same, refl)

-- the records after other orders, as a plan has them
pub ordered_after : (t : TablesView) (service : ServiceNo) (orders : Orders) (plan : OrderPlan) → AreInStep t → IsOrderPlanFor plan t.relations → plan.service ≡ service
    → (after_orders plan t.relations).siblings.orders ≡ slice_set t.relations.siblings.orders service.0 orders.siblings
    → (after_orders plan t.relations).parents.orders ≡ slice_set t.relations.parents.orders service.0 orders.parents → IsOrdered plan t (with_orders (records_of t) service orders)
ordered_after t service orders plan step planned is siblings parents = record {
  tags = refl;
  siblings = refl;
  parents = refl;
  count = length-set t.services service.0 orders;
  relations = λ s.
      sym (relations_same (after_orders plan t.relations) (with_orders (records_of t) service orders)
      (siblings ∙ ap (λ (lists : List (List ServiceNo)). slice_set lists service.0 orders.siblings) step.ordered ∙ sym (map-set (λ (orders : Orders). orders.siblings) t.services service.0 orders))
      (parents ∙ ap (λ (lists : List (List ServiceNo)). slice_set lists service.0 orders.parents) step.parents_ordered ∙ sym (map-set (λ (orders : Orders). orders.parents) t.services service.0 orders))
      planned.sibling_rows planned.parent_rows s);
  others = λ s differs.
      let other : slice_get (slice_set t.services service.0 orders) s ≡ slice_get t.services s = set_other t.services service.0 s orders (λ same. differs (same ∙ ap (λ (n : ServiceNo). n.0) (sym is))) in
      ap (λ (found : Option Orders). record { sibling_order = option_map_or (λ orders. orders.siblings) found []; parent_order = option_map_or (λ orders. orders.parents) found []; siblings = t.relations.siblings.rows; parents = t.relations.parents.rows }) other;
}
  where
    set_other : (xs : List Orders) (k s : ℕ) (x : Orders) → (s ≡ k → ⊥) → slice_get (slice_set xs k x) s ≡ slice_get xs s
    set_other [] k s x differs = refl
    set_other (y ∷ xs) zero zero x differs = absurd (differs refl)
    set_other (y ∷ xs) zero (suc s) x differs = refl
    set_other (y ∷ xs) (suc k) zero x differs = refl
    set_other (y ∷ xs) (suc k) (suc s) x differs = set_other xs k s x (λ same. differs (ap suc same))

pub orders_over : (t : TablesView) (service : ServiceNo) (orders : Orders) (why : Unmet) → list_all (has_service (records_of t)) (services_named service orders) ≡ true
    → over_told (with_orders (records_of t) service orders) ≡ Some why → does (records_of t) (changes.Orders service orders) ≡ Err why
unfolding needs effect
orders_over t service orders why there told =
    let over = over_some (with_orders (records_of t) service orders) why told in
    refused_at (records_of t) (changes.Orders service orders) (services_there (services_named service orders) ∷ []) (few_implied (changes.Orders service orders)) [] refl (there, tt) over.0
    ∙ ap Err over.1

pub orders_prepared : (t : TablesView) (service : ServiceNo) (orders : Orders) (plan : OrderPlan) → IsOrderPlanFor plan t.relations →
    (after_orders plan t.relations).siblings.orders ≡ slice_set t.relations.siblings.orders service.0 orders.siblings →
    (after_orders plan t.relations).parents.orders ≡ slice_set t.relations.parents.orders service.0 orders.parents → Fits (records_of t) →
    list_all (has_service (records_of t)) (services_named service orders) ≡ true → service.0 < length t.services → has_orders (records_of t) service orders ≡ false →
    over_told (with_orders (records_of t) service orders) ≡ None →
    IsPrepared (changes.Orders service orders) t (prepared.Ready (plans.Orders (record { service = service; orders = orders; relations = plan })) (answers.Service service))
unfolding needs is_idle effect answer_to
orders_prepared t service orders plan planned siblings parents fits there known other none =
    let done = done_by (records_of t) (changes.Orders service orders) false (there, (over_none (with_orders (records_of t) service orders) none, tt)) other in (
      done,
      refl,
      record { known = known; planned = planned; siblings = siblings; parents = parents; fits = changes_keep_fit (records_of t) (changes.Orders service orders) done fits; leads = refl },
      refl,
    )

-- ---- mappings

-- file and service are there
pub record IsOfThere (r : Records) (m : Mapping) : Type 0 where
  pub file : has_file r m.file ≡ true
  pub service : has_service r m.service ≡ true

-- what is left to be met of a mapping then
there_does : (r : Records) (m : Mapping) → IsOfThere r m → does r (changes.Mapping m) ≡ guarded (is_met r) (unmet r) (mapping_needs m m.state) (is_mapped_so r m)
unfolding needs is_idle
there_does r m there = rw (there.file, there.service) refl

pub no_file : (r : Records) (m : Mapping) → has_file r m.file ≡ false → does r (changes.Mapping m) ≡ Err whys.UnknownFile
unfolding needs
no_file r m none = rw none refl

pub no_service : (r : Records) (m : Mapping) → has_file r m.file ≡ true → has_service r m.service ≡ false → does r (changes.Mapping m) ≡ Err whys.UnknownService
unfolding needs
no_service r m file none = rw (file, none) refl

set_needs : (m : Mapping) (state : Option MapState) → is_some state ≡ true → mapping_needs m state ≡ room_for_tag m.tag ∷ room_for_mapping m ∷ []
set_needs m (Some state) is = refl
set_needs m None is = absurd (cc is)

taken_needs : (m : Mapping) (state : Option MapState) → is_some state ≡ false → mapping_needs m state ≡ tag_there m.tag ∷ []
taken_needs m (Some state) is = absurd (cc is)
taken_needs m None is = refl

set_does : (r : Records) (m : Mapping) → IsOfThere r m → is_some m.state ≡ true →
    does r (changes.Mapping m) ≡ guarded (is_met r) (unmet r) (room_for_tag m.tag ∷ room_for_mapping m ∷ []) (is_mapped_so r m)
set_does r m there is = there_does r m there ∙ ap (λ (left : List Need). guarded (is_met r) (unmet r) left (is_mapped_so r m)) (set_needs m m.state is)

taken_does : (r : Records) (m : Mapping) → IsOfThere r m → is_some m.state ≡ false →
    does r (changes.Mapping m) ≡ guarded (is_met r) (unmet r) (tag_there m.tag ∷ []) (is_mapped_so r m)
taken_does r m there is = there_does r m there ∙ ap (λ (left : List Need). guarded (is_met r) (unmet r) left (is_mapped_so r m)) (taken_needs m m.state is)

pub no_tag_room : (r : Records) (m : Mapping) → IsOfThere r m → is_some m.state ≡ true → is_met r (room_for_tag m.tag) ≡ false → does r (changes.Mapping m) ≡ Err whys.FullTags
no_tag_room r m there is full = set_does r m there is ∙ rw full refl

pub no_mapping_room : (r : Records) (m : Mapping) → IsOfThere r m → is_some m.state ≡ true → is_met r (room_for_tag m.tag) ≡ true →
    is_met r (room_for_mapping m) ≡ false → does r (changes.Mapping m) ≡ Err whys.FullMappings
no_mapping_room r m there is room full = set_does r m there is ∙ rw (room, full) refl

pub no_such_tag : (r : Records) (m : Mapping) → IsOfThere r m → is_some m.state ≡ false → has_tag r m.tag ≡ false → does r (changes.Mapping m) ≡ Err whys.UnknownTag
no_such_tag r m there is new = taken_does r m there is ∙ rw new refl

pub set_met : (r : Records) (m : Mapping) → IsOfThere r m → is_some m.state ≡ true → is_met r (room_for_tag m.tag) ≡ true → is_met r (room_for_mapping m) ≡ true →
    does r (changes.Mapping m) ≡ Ok (is_mapped_so r m)
set_met r m there is tag mapping = set_does r m there is ∙ rw (tag, mapping) refl

pub taken_met : (r : Records) (m : Mapping) → IsOfThere r m → is_some m.state ≡ false → has_tag r m.tag ≡ true → does r (changes.Mapping m) ≡ Ok (is_mapped_so r m)
taken_met r m there is tag = taken_does r m there is ∙ rw tag refl

set_told : (r : Records) (m : Mapping) (state : Option MapState) → is_some state ≡ true →
    mapping_told r m state ≡ answers.Mapped (record { tag = numbered r m.tag; changed = not (is_mapped_so r m) })
set_told r m (Some state) is = refl
set_told r m None is = absurd (cc is)

taken_told : (r : Records) (m : Mapping) (state : Option MapState) → is_some state ≡ false → mapping_told r m state ≡ answers.Changed (not (is_mapped_so r m))
taken_told r m (Some state) is = absurd (cc is)
taken_told r m None is = refl

pub set_answer : (r : Records) (m : Mapping) → is_some m.state ≡ true →
    answer_to r (changes.Mapping m) ≡ answers.Mapped (record { tag = numbered r m.tag; changed = not (is_mapped_so r m) })
unfolding answer_to
set_answer r m is = set_told r m m.state is

pub taken_answer : (r : Records) (m : Mapping) → is_some m.state ≡ false → answer_to r (changes.Mapping m) ≡ answers.Changed (not (is_mapped_so r m))
unfolding answer_to
taken_answer r m is = taken_told r m m.state is

-- a mapping that is ready to be made
pub mapping_prepared : (t : TablesView) (m : Mapping) (plan : PlannedMapping) (answer : _) → Fits (records_of t) →
    does (records_of t) (changes.Mapping m) ≡ Ok false → answer_to (records_of t) (changes.Mapping m) ≡ answer → IsReady plan m t →
    IsPrepared (changes.Mapping m) t (prepared.Ready (plans.Mapping plan) answer)
unfolding effect
mapping_prepared t m plan answer fits done told ready = (
  done,
  told,
  record { mapping = m; ready = ready; fits = changes_keep_fit (records_of t) (changes.Mapping m) done fits; leads = refl },
  refl,
)

-- a text that has a number or for which there is room has a place
pub place_for : (text : List ℕ) (texts : List (List ℕ)) → is_some (number_of text texts) || nat_lt (length texts) MAX_TAGS ≡ true → HasPlaceFor text texts
place_for text texts is = by_test (is_some (number_of text texts)) refl is where
  by_test : (known : Bool) → is_some (number_of text texts) ≡ known → known || nat_lt (length texts) MAX_TAGS ≡ true → HasPlaceFor text texts
  by_test true known room = inl ((tagged text texts).1 ((numbered_there text texts).0 known))
  by_test false known room = inr (ltb-true _ _ room)

-- a text is a tag exactly where it has a number
pub known_tag : (text : List ℕ) (texts : List (List ℕ)) (known : Bool) → is_some (number_of text texts) ≡ known → is_tag text texts ≡ known
known_tag text texts known is = sym (is_numbered text texts) ∙ is

-- a text that is new and has a place has room
pub room_for_new : (text : List ℕ) (texts : List (List ℕ)) → HasPlaceFor text texts → is_tag text texts ≡ false → length texts < MAX_TAGS
room_for_new text texts (inl known) new = absurd (both_ways _ new known)
room_for_new text texts (inr room) new = room

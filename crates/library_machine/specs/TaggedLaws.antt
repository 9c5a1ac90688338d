-- What changes of services and mappings leave: records that fit, and others.
use Rattle.std.proofs.Common.{◌≡◌, ◌≢◌, ◌⊎◌, ◌<◌, ◌≤◌, ◌&&◌, inl, inr, ℕ, Bool, true, false, Option, Some, None, option_and_then, List, [], ◌∷◌, ◌++◌, length, length-append, slice_get, slice_set, arith, refl, sym, ap, subst, ◌∙◌}
use Rattle.std.specs.Option.{option_map_or}
use Rattle.std.specs.Prelude.{IsSome, Contains}
use Rattle.std.specs.List.Sorted.{IsStrictlySortedBy}
use Rattle.std.proofs.lemmas.Bool.{both_ways}
use Rattle.std.proofs.lemmas.List.{get_or-set_same, length-set}
use Rattle.std.proofs.lemmas.Option.{slice_get-get_or}
use Rattle.media_types.specs.declared.numbers.ServiceNo.{ServiceNo}
use Rattle.media_base.specs.declared.change.Mapping.{Mapping}
use Rattle.tag_types.specs.declared.limits.TheConstants.{MAX_MAPPINGS, MAX_SERVICES, MAX_TAGS}
use Rattle.tag_types.specs.declared.map_state.MapState.{MapState}
use Rattle.tag_types.specs.declared.map_state.MapState.TheVariants as states
use Rattle.tag_types.specs.declared.orders.Orders.{Orders}
use Rattle.tag_types.specs.Equality.{same_services, same_services-Decides}
use Rattle.tag_store.specs.Mapped.{Ascend, Row, state_of, with_state}
use Rattle.spare_tables.specs.EditLaws.{value_put}
use Rattle.tag_store.specs.MappedLaws.{Ascend-with_state, length-taken, length-with_state, one_if, same_triple, state-others, triple_order}
use Rattle.tag_store.specs.Numbering.{number_of, with_tag}
use Rattle.tag_store.specs.NumberingLaws.{distinct-with_tag, known_stays, length-grows, length-with_tag, next_within, number_is, unnumbered_new}
use Rattle.library_machine.specs.Changing.{mapping_needs}
use Rattle.library_machine.specs.Guards.{AreMet}
use Rattle.library_machine.specs.Needs.{Met}
use Rattle.library_machine.specs.Records.{Records, AreThere, TagsFit, IsService, IsThere}
use Rattle.library_machine.specs.Tagging.{has_orders, is_mapped_so, is_same, is_state, mapped, numbered, with_mapping, with_orders, with_service}

pub fit_more_files : (n m : ℕ) (r : Records) → n ≤ m → TagsFit n r.tags r.services r.mappings → TagsFit m r.tags r.services r.mappings
fit_more_files n m r le fit = record {
  few_tags = fit.few_tags;
  few_services = fit.few_services;
  few_mappings = fit.few_mappings;
  distinct = fit.distinct;
  ascend = fit.ascend;
  there = λ s t f is. let at = fit.there s t f is in record { service = at.service; tag = at.tag; file = omega (arith, at.file, le) };
}

-- no mapping ascends
pub none_ascends : Ascend []
unfolding IsStrictlySortedBy
none_ascends = tt

pub service_fit : (r : Records) → length r.services < MAX_SERVICES → TagsFit (length r.files) r.tags r.services r.mappings
    → TagsFit (length r.files) r.tags (with_service r).services r.mappings
service_fit r room fit = record {
  few_tags = fit.few_tags;
  few_services = omega (arith, room, length-append r.services);
  few_mappings = fit.few_mappings;
  distinct = fit.distinct;
  ascend = fit.ascend;
  there = λ s t f is. let at = fit.there s t f is in record { service = omega (arith, at.service, length-append r.services); tag = at.tag; file = at.file };
}

pub orders_fit : (r : Records) (service : ServiceNo) (orders : Orders) → TagsFit (length r.files) r.tags r.services r.mappings
    → TagsFit (length r.files) r.tags (with_orders r service orders).services r.mappings
orders_fit r service orders fit = record {
  few_tags = fit.few_tags;
  few_services = rw (length-set r.services service.0 orders) fit.few_services;
  few_mappings = fit.few_mappings;
  distinct = fit.distinct;
  ascend = fit.ascend;
  there = λ s t f is. let at = fit.there s t f is in record { service = rw (length-set r.services service.0 orders) at.service; tag = at.tag; file = at.file };
}

-- a list is the same as itself
same_list : (services : List ServiceNo) → same_services services services ≡ true
same_list services = (same_services-Decides services services).1 refl

-- what is set at a place that is there stands there
set_there : {A : Type 0} (xs : List A) (k : ℕ) (x : A) → k < length xs → slice_get (slice_set xs k x) k ≡ Some x
set_there xs k x lt = slice_get-get_or (slice_set xs k x) k x (rw (length-set xs k x) lt) ∙ ap Some (get_or-set_same xs k x x lt)

abbrev holds : Orders → Option Orders → Bool
holds orders found = option_map_or (λ now. same_services now.siblings orders.siblings && same_services now.parents orders.parents) found false

pub orders_other : (r : Records) (service : ServiceNo) (orders : Orders) → IsService r service → has_orders r service orders ≡ false
    → with_orders r service orders ≢ r
orders_other r service orders there fresh same =
    let now = ap (λ (s : Records). slice_get s.services service.0) same in
    let set = set_there r.services service.0 orders there in
    let stands : has_orders r service orders ≡ true = ap (holds orders) (sym now ∙ set) ∙ rw (same_list orders.siblings) (same_list orders.parents) in
    both_ways _ fresh stands

-- ---- mappings

-- each mapping is there, once this triple is mapped so
there_after : (r : Records) (s t f : ℕ) (state : Option MapState) (tags : ℕ) → Ascend r.mappings → length r.tags ≤ tags → t < tags → s < length r.services → f < length r.files
    → ((a b c : ℕ) → IsSome (state_of r.mappings a b c) → AreThere (length r.services) (length r.tags) (length r.files) a b c)
    → (a b c : ℕ) → IsSome (state_of (with_state r.mappings s t f state) a b c) → AreThere (length r.services) tags (length r.files) a b c
there_after r s t f state tags ascend le tag service file there a b c is = elim (same_triple (a, b, c) (s, t, f)) [
  | inl same ↦ record {
    service = rw (ap (λ (k : ℕ × ℕ × ℕ). k.0) same) service;
    tag = rw (ap (λ (k : ℕ × ℕ × ℕ). k.1) same) tag;
    file = rw (ap (λ (k : ℕ × ℕ × ℕ). k.2) same) file;
  }
  | inr other ↦
      let at = there a b c (subst (λ (found : Option MapState). IsSome found) (state-others r.mappings s t f state (a, b, c) ascend other) is) in
      record { service = at.service; tag = omega (arith, at.tag, le); file = at.file }
]

-- so many tags, once one is mapped that has room or is there
few_after : (text : List ℕ) (texts : List (List ℕ)) → Contains texts text ⊎ (length texts < MAX_TAGS) → length texts ≤ MAX_TAGS → length (with_tag texts text) ≤ MAX_TAGS
few_after text texts (inl there) few = rw (known_stays text texts there) few
few_after text texts (inr room) few = omega (arith, room, length-with_tag text texts)

-- so many mappings
abbrev HasRoomFor : Records → Mapping → Type 0
HasRoomFor r m = (mapped r m.service m.tag m.file ≢ None) ⊎ (length r.mappings < MAX_MAPPINGS)

mapping_fit : (r : Records) (m : Mapping) → IsThere r m.file → IsService r m.service → Contains r.tags m.tag ⊎ (length r.tags < MAX_TAGS)
    → length (with_mapping r m).mappings ≤ MAX_MAPPINGS → TagsFit (length r.files) r.tags r.services r.mappings
    → TagsFit (length r.files) (with_mapping r m).tags r.services (with_mapping r m).mappings
mapping_fit r m file service tag few fit = record {
  few_tags = few_after m.tag r.tags tag fit.few_tags;
  few_services = fit.few_services;
  few_mappings = few;
  distinct = distinct-with_tag m.tag r.tags fit.distinct;
  ascend = Ascend-with_state r.mappings m.service.0 (numbered r m.tag).0 m.file.0 m.state fit.ascend;
  there = there_after r m.service.0 (numbered r m.tag).0 m.file.0 m.state (length (with_tag r.tags m.tag)) fit.ascend
      (length-grows m.tag r.tags) (next_within m.tag r.tags) service file fit.there;
}

-- ---- how many mappings

-- the mapping that a text's number finds
found_by : (r : Records) (m : Mapping) (k : ℕ) → number_of m.tag r.tags ≡ Some k
    → (mapped r m.service m.tag m.file ≡ state_of r.mappings m.service.0 k m.file.0) × ((numbered r m.tag).0 ≡ k)
found_by r m k is = (
  ap (λ (found : Option ℕ). option_and_then (λ tag. state_of r.mappings m.service.0 tag m.file.0) found) is,
  number_is m.tag r.tags (number_of m.tag r.tags) refl k is,
)

-- the state that the mapping's triple has
abbrev now_at : Records → Mapping → Option MapState
now_at r m = state_of r.mappings m.service.0 (numbered r m.tag).0 m.file.0

-- a triple that is mapped has a state
has_state : (r : Records) (m : Mapping) (found : Option ℕ) → number_of m.tag r.tags ≡ found → mapped r m.service m.tag m.file ≢ None → now_at r m ≢ None
has_state r m None is some none = some (ap (λ (found : Option ℕ). option_and_then (λ tag. state_of r.mappings m.service.0 tag m.file.0) found) is)
has_state r m (Some k) is some none =
    let p = found_by r m k is in
    some (p.0 ∙ ap (λ (tag : ℕ). state_of r.mappings m.service.0 tag m.file.0) (sym p.1) ∙ none)

one_of_some : (state : Option MapState) → state ≢ None → one_if state ≡ 1
one_of_some None some = absurd (some refl)
one_of_some (Some state) some = refl

at_most_one : (state : Option MapState) → one_if state ≤ 1
at_most_one None = omega arith
at_most_one (Some state) = omega arith

few_mappings : (r : Records) (m : Mapping) → HasRoomFor r m → TagsFit (length r.files) r.tags r.services r.mappings → length (with_mapping r m).mappings ≤ MAX_MAPPINGS
few_mappings r m (inl some) fit =
    let counted = length-with_state r.mappings m.service.0 (numbered r m.tag).0 m.file.0 m.state fit.ascend in
    let was = one_of_some (now_at r m) (has_state r m _ refl some) in
    let few = fit.few_mappings in
    let one = at_most_one m.state in
    omega (arith, counted, was, one, few)
few_mappings r m (inr room) fit =
    let counted = length-with_state r.mappings m.service.0 (numbered r m.tag).0 m.file.0 m.state fit.ascend in
    let one = at_most_one m.state in
    omega (arith, counted, one, room)

-- taking a mapping away makes none
fewer_mappings : (r : Records) (m : Mapping) → m.state ≡ None → TagsFit (length r.files) r.tags r.services r.mappings → length (with_mapping r m).mappings ≤ MAX_MAPPINGS
fewer_mappings r m none fit =
    let counted = length-with_state r.mappings m.service.0 (numbered r m.tag).0 m.file.0 m.state fit.ascend in
    let no_more = ap one_if none in
    let few = fit.few_mappings in
    omega (arith, counted, no_more, few)

mapping_by : (r : Records) (m : Mapping) (state : Option MapState) → m.state ≡ state → IsThere r m.file → IsService r m.service → AreMet (Met r) (mapping_needs m state)
    → TagsFit (length r.files) r.tags r.services r.mappings → TagsFit (length r.files) (with_mapping r m).tags r.services (with_mapping r m).mappings
mapping_by r m (Some state) is file service met fit = mapping_fit r m file service met.0 (few_mappings r m met.1.0 fit) fit
mapping_by r m None is file service met fit = mapping_fit r m file service (inl met.0) (fewer_mappings r m is fit) fit

pub mapping_fits : (r : Records) (m : Mapping) → IsThere r m.file → IsService r m.service → AreMet (Met r) (mapping_needs m m.state)
    → TagsFit (length r.files) r.tags r.services r.mappings → TagsFit (length r.files) (with_mapping r m).tags r.services (with_mapping r m).mappings
mapping_fits r m = mapping_by r m m.state refl

-- ---- a mapping that is set leaves other records

same_state : (state : MapState) → is_state state state ≡ true
same_state states.Current = refl
same_state states.Pending = refl
same_state states.Deleted = refl

same_states : (state : Option MapState) → is_same state state ≡ true
same_states None = refl
same_states (Some state) = same_state state

longer_texts : (texts : List (List ℕ)) (text : List ℕ) → texts ++ text ∷ [] ≢ texts
longer_texts texts text same = let n = ap length same in omega (n, arith, length-append texts)

-- what stays the same was so before
so_before : (rows : List Row) (s t f : ℕ) (state : Option MapState) → with_state rows s t f state ≡ rows → state_of rows s t f ≡ state
so_before rows s t f (Some state) same = ap (λ (all : List Row). state_of all s t f) (sym same) ∙ value_put triple_order (s, t, f) state rows
so_before rows s t f None same =
    let counted = length-taken rows (s, t, f) in
    let n = ap length same in
    none_by (state_of rows s t f) (omega (arith, counted, n)) where
      none_by : (state : Option MapState) → one_if state ≡ 0 → state ≡ None
      none_by None is = refl
      none_by (Some state) is = absurd (omega (arith, is))

other_by : (r : Records) (m : Mapping) (found : Option ℕ) → number_of m.tag r.tags ≡ found → is_mapped_so r m ≡ false → with_mapping r m ≢ r
other_by r m None is fresh same =
    longer_texts r.tags m.tag (sym (unnumbered_new m.tag r.tags is) ∙ ap (λ (s : Records). s.tags) same)
other_by r m (Some k) is fresh same =
    let p = found_by r m k is in
    let before = so_before r.mappings m.service.0 (numbered r m.tag).0 m.file.0 m.state (ap (λ (s : Records). s.mappings) same) in
    let so = p.0 ∙ ap (λ (tag : ℕ). state_of r.mappings m.service.0 tag m.file.0) (sym p.1) ∙ before in
    both_ways _ fresh (ap (λ (state : Option MapState). is_same state m.state) so ∙ same_states m.state)

pub mapping_other : (r : Records) (m : Mapping) → is_mapped_so r m ≡ false → with_mapping r m ≢ r
mapping_other r m = other_by r m _ refl

-- What has to be so of the records for a command to be done: as a test, in plain words, and what is told where it
-- isn't so.
use Rattle.std.specs.Prelude.{ℕ, None, Some, ◌≡◌, ◌≢◌, ◌<◌, ◌≤◌, ◌⊎◌, Bool, false, ◌==◌, ◌||◌, not, List, [], length, nat_le, nat_lt, slice_get, is_some, All}
use Rattle.std.specs.List.{list_all}
use Rattle.std.specs.Option.{option_map_or}
use Rattle.media_types.specs.declared.decision.Decision.{Decision}
use Rattle.media_types.specs.declared.hash.Sha.{Sha}
use Rattle.media_types.specs.declared.limits.TheConstants.{MAX_DECISIONS, MAX_FILES, MAX_NEAR}
use Rattle.media_types.specs.declared.numbers.DecisionNo.{DecisionNo}
use Rattle.media_types.specs.declared.numbers.FileNo.{FileNo}
use Rattle.media_types.specs.declared.numbers.ServiceNo.{ServiceNo}
use Rattle.media_types.specs.declared.searching.Searching.{Searching}
use Rattle.media_base.specs.declared.change.Change.{Change}
use Rattle.media_base.specs.declared.change.Mapping.{Mapping}
use Rattle.media_base.specs.declared.change.TagPair.{TagPair}
use Rattle.media_base.specs.declared.refusal.Unmet.{Unmet}
use Rattle.media_base.specs.declared.refusal.Unmet.TheVariants as whys
use Rattle.file_records.specs.Lookup.{file_with}
use Rattle.file_records.specs.Near.{near_pairs}
use Rattle.tag_types.specs.declared.limits.TheConstants.{MAX_MAPPINGS, MAX_RELATIONS, MAX_SERVICES, MAX_TAGS}
use Rattle.tag_store.specs.Numbering.{number_of}
use Rattle.library_machine.specs.Effects.{effect}
use Rattle.library_machine.specs.Records.{Records, IsThere, IsNew, IsRecorded, IsService, IsTagged, too_many}
use Rattle.library_machine.specs.Relating.{IsParent, good_number, good_text, has_pair, has_parent, text_of, too_many_told, with_both}
use Rattle.library_machine.specs.Searches.{after_search, has_room_for_near, is_empty, risen}
use Rattle.library_machine.specs.Tagging.{mapped}

pub data Need : Type 0 where
  file_there : FileNo → Need
  files_there : List FileNo → Need
  two_files : Decision → Need
  decision_there : DecisionNo → Need
  not_undone : DecisionNo → Need
  -- for the file of this SHA-256, where it is new
  room_for_file : Sha → Need
  -- for the pairs that this search finds
  room_for_near : Searching → Need
  room_for_decision : Need
  service_there : ServiceNo → Need
  services_there : List ServiceNo → Need
  -- a tag of this text
  tag_there : List ℕ → Need
  -- for the tag of this text, where it is new
  room_for_tag : List ℕ → Need
  -- for this mapping, where it is new
  room_for_mapping : Mapping → Need
  room_for_service : Need
  -- no standing pair of the service leads this text to a good tag
  no_good_yet : ServiceNo → List ℕ → Need
  -- this pair stands
  pair_stands : TagPair → Need
  -- for the tags of these texts, where they are new
  room_for_tags : List ℕ → List ℕ → Need
  -- no tag implies too many, once this change is made
  few_implied : Change → Need
  room_for_sibling : Need
  -- this parent pair doesn't stand
  no_parent_yet : TagPair → Need
  -- this parent pair stands
  parent_stands : TagPair → Need
  room_for_parent : Need

abbrev pub has_file : Records → FileNo → Bool
has_file r f = nat_lt f.0 (length r.files)

abbrev pub is_known : Records → Sha → Bool
is_known r sha = is_some (file_with sha r.files)

abbrev pub has_service : Records → ServiceNo → Bool
has_service r service = nat_lt service.0 (length r.services)

abbrev pub has_tag : Records → List ℕ → Bool
has_tag r text = is_some (number_of text r.tags)

-- the text is mapped to the file in the service, in any state
abbrev pub has_mapping : Records → Mapping → Bool
has_mapping r m = is_some (mapped r m.service m.tag m.file)

abbrev pub is_met : Records → Need → Bool
is_met r (file_there f) = has_file r f
is_met r (files_there fs) = list_all (has_file r) fs
is_met r (two_files d) = not (d.a.0 == d.b.0)
is_met r (decision_there n) = nat_lt n.0 (length r.decisions)
is_met r (not_undone n) = option_map_or (λ row. not row.undone) (slice_get r.decisions n.0) false
is_met r (room_for_file sha) = is_known r sha || nat_lt (length r.files) MAX_FILES
is_met r (room_for_near s) = is_empty (risen r s) || has_room_for_near (after_search r s)
is_met r room_for_decision = nat_lt (length r.decisions) MAX_DECISIONS
is_met r (service_there service) = has_service r service
is_met r (services_there services) = list_all (has_service r) services
is_met r (tag_there text) = has_tag r text
is_met r (room_for_tag text) = has_tag r text || nat_lt (length r.tags) MAX_TAGS
is_met r (room_for_mapping m) = has_mapping r m || nat_lt (length r.mappings) MAX_MAPPINGS
is_met r room_for_service = nat_lt (length r.services) MAX_SERVICES
is_met r (no_good_yet service text) = not (is_some (good_number r service text))
is_met r (pair_stands pair) = has_pair r pair
is_met r (room_for_tags first second) = nat_le (length (with_both r.tags first second)) MAX_TAGS
is_met r (few_implied change) = not (is_some (too_many (effect r change)))
is_met r room_for_sibling = nat_lt (length r.siblings) MAX_RELATIONS
is_met r (no_parent_yet pair) = not (has_parent r pair)
is_met r (parent_stands pair) = has_parent r pair
is_met r room_for_parent = nat_lt (length r.parents) MAX_RELATIONS

-- the same in plain words
abbrev pub Met : Records → Need → Type 0
Met r (file_there f) = IsThere r f
Met r (files_there fs) = All (IsThere r) fs
Met r (two_files d) = d.a ≢ d.b
Met r (decision_there n) = n.0 < length r.decisions
Met r (not_undone n) = IsRecorded r n false
Met r (room_for_file sha) = (¬ IsNew r sha) ⊎ (length r.files < MAX_FILES)
Met r (room_for_near s) = (risen r s ≡ []) ⊎ (length (near_pairs (after_search r s).files) ≤ MAX_NEAR)
Met r room_for_decision = length r.decisions < MAX_DECISIONS
Met r (service_there service) = IsService r service
Met r (services_there services) = All (IsService r) services
Met r (tag_there text) = IsTagged r text
Met r (room_for_tag text) = IsTagged r text ⊎ (length r.tags < MAX_TAGS)
Met r (room_for_mapping m) = (mapped r m.service m.tag m.file ≢ None) ⊎ (length r.mappings < MAX_MAPPINGS)
Met r room_for_service = length r.services < MAX_SERVICES
Met r (no_good_yet service text) = good_number r service text ≡ None
Met r (pair_stands pair) = (good : ℕ) × (good_number r pair.service pair.first ≡ Some good) × (text_of r good ≡ pair.second)
Met r (room_for_tags first second) = length (with_both r.tags first second) ≤ MAX_TAGS
Met r (few_implied change) = too_many (effect r change) ≡ None
Met r room_for_sibling = length r.siblings < MAX_RELATIONS
Met r (no_parent_yet pair) = ¬ IsParent r pair
Met r (parent_stands pair) = IsParent r pair
Met r room_for_parent = length r.parents < MAX_RELATIONS

-- A pair that is known tells the good tag, or the parent, that stands.
abbrev pub unmet : Records → Need → Unmet
unmet r (file_there f) = whys.UnknownFile
unmet r (files_there fs) = whys.UnknownFile
unmet r (two_files d) = whys.SameFile
unmet r (decision_there n) = whys.UnknownDecision
unmet r (not_undone n) = whys.AlreadyUndone
unmet r (room_for_file sha) = whys.FullFiles
unmet r (room_for_near s) = whys.FullNear
unmet r room_for_decision = whys.FullDecisions
unmet r (service_there service) = whys.UnknownService
unmet r (services_there services) = whys.UnknownService
unmet r (tag_there text) = whys.UnknownTag
unmet r (room_for_tag text) = whys.FullTags
unmet r (room_for_mapping m) = whys.FullMappings
unmet r room_for_service = whys.FullServices
unmet r (no_good_yet service text) = whys.PairKnown (good_text r service text)
unmet r (pair_stands pair) = whys.UnknownPair
unmet r (room_for_tags first second) = whys.FullTags
unmet r (few_implied change) = too_many_told (effect r change)
unmet r room_for_sibling = whys.FullRelations
unmet r (no_parent_yet pair) = whys.PairKnown pair.second
unmet r (parent_stands pair) = whys.UnknownPair
unmet r room_for_parent = whys.FullRelations

-- Tags, services and mappings among the records.
use Rattle.std.specs.Prelude.{ℕ, Bool, true, false, not, ◌&&◌, List, [], ◌∷◌, ◌++◌, map, filter, slice_get, slice_index_or, slice_set, length, Option, Some, None, option_and_then}
use Rattle.std.specs.Option.{option_map_or}
use Rattle.media_types.specs.declared.numbers.ServiceNo.{ServiceNo}
use Rattle.media_types.specs.declared.numbers.FileNo.{FileNo}
use Rattle.media_types.specs.declared.numbers.TagNo.{TagNo}
use Rattle.media_base.specs.declared.change.Mapping.{Mapping}
use Rattle.media_base.specs.declared.reply.Answer.{Answer}
use Rattle.media_base.specs.declared.reply.Answer.TheVariants as answers
use Rattle.media_base.specs.declared.reply.FileMappings.{FileMappings}
use Rattle.tag_types.specs.declared.map_state.MapState.{MapState}
use Rattle.tag_types.specs.declared.map_state.MapState.TheVariants as states
use Rattle.tag_types.specs.declared.orders.Orders.{Orders}
use Rattle.tag_types.specs.Equality.{same_services}
use Rattle.tag_store.specs.Mapped.{state_of, tags_of_file, with_state}
use Rattle.tag_store.specs.Numbering.{number_of, number_or_next, with_tag}
use Rattle.tag_store.specs.Serving.{next_orders}
use Rattle.library_machine.specs.Records.{Records}

-- ---- mappings

-- how the text is mapped to the file in the service; a text that isn't numbered isn't mapped
abbrev pub mapped : Records → ServiceNo → List ℕ → FileNo → Option MapState
mapped r service text file = option_and_then (λ tag. state_of r.mappings service.0 tag file.0) (number_of text r.tags)

-- the number that the text has, or would have
abbrev pub numbered : Records → List ℕ → TagNo
numbered r text = record { 0 = number_or_next text r.tags }

abbrev pub is_state : MapState → MapState → Bool
is_state states.Current states.Current = true
is_state states.Pending states.Pending = true
is_state states.Deleted states.Deleted = true
is_state a b = false

abbrev pub is_same : Option MapState → Option MapState → Bool
is_same (Some a) (Some b) = is_state a b
is_same None None = true
is_same a b = false

-- it is mapped so already
abbrev pub is_mapped_so : Records → Mapping → Bool
is_mapped_so r m = is_same (mapped r m.service m.tag m.file) m.state

-- A tag that is new has the next number, and then the mapping of the triple is this one.
abbrev pub with_mapping : Records → Mapping → Records
with_mapping r m = record r {
  tags = with_tag r.tags m.tag;
  mappings = with_state r.mappings m.service.0 (numbered r m.tag).0 m.file.0 m.state;
}

-- what mapping a tag tells, and what taking a mapping away tells: whether anything changed
abbrev pub mapping_told : Records → Mapping → Option MapState → Answer
mapping_told r m (Some state) = answers.Mapped (record { tag = numbered r m.tag; changed = not (is_mapped_so r m) })
mapping_told r m None = answers.Changed (not (is_mapped_so r m))

-- the texts of those of the tags whose mapping has this state
abbrev pub texts_with : Records → MapState → List (TagNo × MapState) → List (List ℕ)
texts_with r state tags = map (λ tag. slice_index_or r.tags tag.0.0 []) (filter (λ tag. is_state tag.1 state) tags)

-- the tags of the file in the service whose mapping has this state, in the order of their numbers
abbrev pub tags_in : Records → ServiceNo → FileNo → MapState → List (List ℕ)
tags_in r service file state = texts_with r state (tags_of_file r.mappings service.0 file.0)

-- the file's tags in the service, by the state of their mapping
abbrev pub file_mappings : Records → ServiceNo → FileNo → FileMappings
file_mappings r service file = record {
  current = tags_in r service file states.Current;
  pending = tags_in r service file states.Pending;
  deleted = tags_in r service file states.Deleted;
}

-- ---- services

abbrev pub next_service : Records → ServiceNo
next_service r = record { 0 = length r.services }

-- a new service takes its own pairs alone
abbrev pub with_service : Records → Records
with_service r = record r { services = r.services ++ next_orders r.services ∷ [] }

abbrev pub with_orders : Records → ServiceNo → Orders → Records
with_orders r service orders = record r { services = slice_set r.services service.0 orders }

-- it has these orders already
abbrev pub has_orders : Records → ServiceNo → Orders → Bool
has_orders r service orders =
    option_map_or (λ now. same_services now.siblings orders.siblings && same_services now.parents orders.parents) (slice_get r.services service.0) false

-- the services that orders of a service name
abbrev pub services_named : ServiceNo → Orders → List ServiceNo
services_named service orders = service ∷ orders.siblings ++ orders.parents

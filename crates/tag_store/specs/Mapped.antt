-- Which tags are mapped to which files, in which state.
use Rattle.std.specs.Prelude.{◌==◌, ◌&&◌, ℕ, Bool, true, nat_lt, List, map, filter, find, Option, Some, None}
use Rattle.std.specs.BTreeMap.{insert_entry}
use Rattle.std.specs.List.Sorted.{IsStrictlySortedBy}
use Rattle.std.specs.Map.{keys_of}
use Rattle.media_types.specs.Numbered.{is_past}
use Rattle.media_types.specs.declared.numbers.FileNo.{FileNo}
use Rattle.media_types.specs.declared.numbers.TagNo.{TagNo}
use Rattle.spare_tables.specs.Keys.{value_of, without_row}
use Rattle.spare_tables.specs.Order.{triple_cmp}
use Rattle.tag_types.specs.declared.map_state.MapState.{MapState}

-- a mapping: its service, its tag and its file, and in which state it is
abbrev pub Row : Type 0
Row = (ℕ × ℕ × ℕ) × MapState

-- each mapping stands once, in the order of services, tags and files
abbrev pub Ascend : List Row → Type 0
Ascend rows = IsStrictlySortedBy triple_cmp (keys_of rows)

-- in which state a tag of a service is mapped to a file, if it is
abbrev pub state_of : List Row → ℕ → ℕ → ℕ → Option MapState
state_of rows s t f = value_of triple_cmp rows (s, t, f)

-- the mappings with this one in a state, or without it
abbrev pub with_state : List Row → ℕ → ℕ → ℕ → Option MapState → List Row
with_state rows s t f None = without_row triple_cmp rows (s, t, f)
with_state rows s t f (Some state) = insert_entry triple_cmp rows (s, t, f) state

-- a number and a state as those of a tag, and of a file
abbrev pub numbered_tag : ℕ × MapState → TagNo × MapState
numbered_tag it = (record { 0 = it.0 }, it.1)

abbrev pub numbered_file : ℕ × MapState → FileNo × MapState
numbered_file it = (record { 0 = it.0 }, it.1)

-- the tags that a service maps to a file, ascending, each with its state
abbrev pub tags_of_file : List Row → ℕ → ℕ → List (TagNo × MapState)
tags_of_file rows s f = map (λ row. numbered_tag (row.0.1, row.1)) (filter (λ row. row.0.0 == s && row.0.2 == f) rows)

-- the files that a tag of a service is mapped to, ascending, each with the state
abbrev pub files_of_tag : List Row → ℕ → ℕ → List (FileNo × MapState)
files_of_tag rows s t = map (λ row. numbered_file (row.0.2, row.1)) (filter (λ row. row.0.0 == s && row.0.1 == t) rows)

-- the tag comes after the place, which is a number or the front
abbrev pub is_past_tag : Option TagNo → ℕ → Bool
is_past_tag None t = true
is_past_tag (Some after) t = nat_lt after.0 t

-- the first of the tags that comes after a place
abbrev pub first_tag_past : Option TagNo → List (TagNo × MapState) → Option (TagNo × MapState)
first_tag_past after tags = find (λ it. is_past_tag after it.0.0) tags

-- the first of the files that comes after a place
abbrev pub first_file_past : Option FileNo → List (FileNo × MapState) → Option (FileNo × MapState)
first_file_past after files = find (λ it. is_past after it.0.0) files

-- The changes of the records: what each needs, when it would change nothing, and what is told.
use Rattle.std.specs.Prelude.{ℕ, Bool, true, false, ◌==◌, not, if◌then◌else◌, List, [], ◌∷◌, length, Option, Some, None, Result}
use Rattle.media_types.specs.declared.numbers.FileNo.{FileNo}
use Rattle.media_base.specs.declared.change.Change.{Change}
use Rattle.media_base.specs.declared.change.Change.TheVariants as changes
use Rattle.media_base.specs.declared.change.Mapping.{Mapping}
use Rattle.media_base.specs.declared.refusal.Unmet.{Unmet}
use Rattle.media_base.specs.declared.reply.Answer.{Answer}
use Rattle.media_base.specs.declared.reply.Answer.TheVariants as answers
use Rattle.media_base.specs.declared.reply.ImportStatus.{ImportStatus}
use Rattle.media_base.specs.declared.reply.ImportStatus.TheVariants as imports
use Rattle.file_records.specs.declared.file_row.FileRow.{FileRow}
use Rattle.file_records.specs.Living.{is_live}
use Rattle.file_records.specs.Lookup.{file_with}
use Rattle.library_machine.specs.Guards.{guarded}
use Rattle.tag_types.specs.declared.map_state.MapState.{MapState}
use Rattle.library_machine.specs.Needs.{Need, file_there, files_there, two_files, decision_there, not_undone, room_for_file, room_for_near, room_for_decision, service_there, services_there, tag_there, room_for_tag, room_for_mapping, room_for_service, no_good_yet, pair_stands, room_for_tags, few_implied, room_for_sibling, no_parent_yet, parent_stands, room_for_parent, is_known, is_met, unmet}
use Rattle.library_machine.specs.Records.{Records}
use Rattle.library_machine.specs.Relating.{pair_tags}
use Rattle.library_machine.specs.Searches.{after_search, counts, is_empty, risen}
use Rattle.library_machine.specs.Tagging.{has_orders, is_mapped_so, mapping_told, next_service, services_named}

-- A tag that is mapped may be new; one whose mapping is taken away is there.
abbrev pub mapping_needs : Mapping → Option MapState → List Need
mapping_needs m (Some state) = room_for_tag m.tag ∷ room_for_mapping m ∷ []
mapping_needs m None = tag_there m.tag ∷ []

-- the needs in the order of their refusals
unfoldable pub needs : Change → List Need
needs (changes.File file) = room_for_file file.sha ∷ []
needs (changes.Live f live) = file_there f ∷ []
needs (changes.Decision d) = file_there d.a ∷ file_there d.b ∷ two_files d ∷ room_for_decision ∷ []
needs (changes.Undo n) = decision_there n ∷ not_undone n ∷ []
needs (changes.Distance d) = []
needs (changes.Searched s) = files_there s.files ∷ room_for_near s ∷ []
needs changes.Service = room_for_service ∷ []
needs (changes.Orders service orders) = services_there (services_named service orders) ∷ few_implied (changes.Orders service orders) ∷ []
needs (changes.Mapping m) = file_there m.file ∷ service_there m.service ∷ mapping_needs m m.state
needs (changes.SiblingAdded pair) = service_there pair.service ∷ no_good_yet pair.service pair.first ∷ room_for_tags pair.first pair.second ∷ few_implied (changes.SiblingAdded pair) ∷ room_for_sibling ∷ []
needs (changes.SiblingRemoved pair) = service_there pair.service ∷ tag_there pair.first ∷ tag_there pair.second ∷ pair_stands pair ∷ few_implied (changes.SiblingRemoved pair) ∷ []
needs (changes.ParentAdded pair) = service_there pair.service ∷ no_parent_yet pair ∷ room_for_tags pair.first pair.second ∷ few_implied (changes.ParentAdded pair) ∷ room_for_parent ∷ []
needs (changes.ParentRemoved pair) = service_there pair.service ∷ tag_there pair.first ∷ tag_there pair.second ∷ parent_stands pair ∷ few_implied (changes.ParentRemoved pair) ∷ []

-- whether the file's mark is this one
abbrev pub is_marked : Records → FileNo → Bool → Bool
is_marked r f true = is_live r.files f.0
is_marked r f false = not (is_live r.files f.0)

-- Whether it would change nothing. A decision is recorded whether or not it has an effect.
unfoldable pub is_idle : Records → Change → Bool
is_idle r (changes.File file) = is_known r file.sha
is_idle r (changes.Live f live) = is_marked r f live
is_idle r (changes.Decision d) = false
is_idle r (changes.Undo n) = false
is_idle r (changes.Distance d) = r.distance == d
is_idle r (changes.Searched s) = is_empty (risen r s)
is_idle r changes.Service = false
is_idle r (changes.Orders service orders) = has_orders r service orders
is_idle r (changes.Mapping m) = is_mapped_so r m
is_idle r (changes.SiblingAdded pair) = false
is_idle r (changes.SiblingRemoved pair) = false
is_idle r (changes.ParentAdded pair) = false
is_idle r (changes.ParentRemoved pair) = false

-- what an import finds of the known file of number k
abbrev pub known_status : List FileRow → ℕ → ImportStatus
known_status rows k = if is_live rows k then imports.Known else imports.Deleted

-- what an import tells of the file at this place, or of a new one
abbrev pub imported : Records → Option ℕ → Answer
imported r (Some at) = answers.Imported (record { file = record { 0 = at }; status = known_status r.files at })
imported r None = answers.Imported (record { file = record { 0 = length r.files }; status = imports.New })

unfoldable pub answer_to : Records → Change → Answer
answer_to r (changes.File file) = imported r (file_with file.sha r.files)
answer_to r (changes.Live f live) = answers.Changed (not (is_marked r f live))
answer_to r (changes.Decision d) = answers.Decided (record { 0 = length r.decisions })
answer_to r (changes.Undo n) = answers.Undone n
answer_to r (changes.Distance d) = answers.Distance d
answer_to r (changes.Searched s) = counts (risen r s) (after_search r s)
answer_to r changes.Service = answers.Service (next_service r)
answer_to r (changes.Orders service orders) = answers.Service service
answer_to r (changes.Mapping m) = mapping_told r m m.state
answer_to r (changes.SiblingAdded pair) = answers.Sibling (pair_tags r pair)
answer_to r (changes.SiblingRemoved pair) = answers.Changed true
answer_to r (changes.ParentAdded pair) = answers.Parent (pair_tags r pair)
answer_to r (changes.ParentRemoved pair) = answers.Changed true

-- whether the change would change nothing, or why it is refused
abbrev pub does : Records → Change → Result Bool Unmet
does r c = guarded (is_met r) (unmet r) (needs c) (is_idle r c)

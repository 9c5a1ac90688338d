-- Words for small sessions.
use Rattle.std.specs.Prelude.{ℕ, Bool, true, false, List, [], map, replicate, None, Some, Ok, Err}
use Rattle.media_types.specs.declared.decision.Code.{Code}
use Rattle.media_types.specs.declared.decision.Code.TheVariants.{Better}
use Rattle.media_types.specs.declared.numbers.FileNo.{FileNo}
use Rattle.media_types.specs.declared.numbers.ServiceNo.{ServiceNo}
use Rattle.tag_types.specs.declared.map_state.MapState.{MapState}
use Rattle.media_base.specs.declared.change.Change.TheVariants as changes
use Rattle.media_base.specs.declared.command.Command.{Command}
use Rattle.media_base.specs.declared.command.Command.TheVariants.{Ask, Do, Run, Tend}
use Rattle.media_base.specs.declared.command.Job.TheVariants as jobs
use Rattle.media_base.specs.declared.command.Query.TheVariants as queries
use Rattle.media_base.specs.declared.command.Upkeep.TheVariants as upkeeps
use Rattle.media_base.specs.declared.refusal.Refusal.TheVariants as refusals
use Rattle.media_base.specs.declared.refusal.Unmet.{Unmet}
use Rattle.media_base.specs.declared.reply.Answer.TheVariants as answers
use Rattle.media_base.specs.declared.reply.ImportStatus.{ImportStatus}
use Rattle.media_base.specs.Replying.{Reply}
use Rattle.library_machine.specs.Asking.{query_needs}
use Rattle.library_machine.specs.Changing.{needs}
use Rattle.library_machine.specs.Needs.{unmet}
use Rattle.library_machine.specs.Records.{no_records}

abbrev pub file : ℕ → FileNo
file k = record { 0 = k }

-- the import of a file whose SHA-256 is 32 times the byte k, with these hashes
abbrev pub import_with : ℕ → List ℕ → Command
import_with k words = Do (changes.File (record {
  sha = record { 0 = replicate 32 k };
  hashes = map (λ word. record { 0 = word }) words;
  size = 7;
  width = 3;
  height = 2;
}))

-- the same without hashes
abbrev pub import_of : ℕ → Command
import_of k = import_with k []

-- a search of files within a distance
abbrev pub search_of : List ℕ → ℕ → Command
search_of files d = Do (changes.Searched (record { files = map file files; distance = d }))

-- a search of the next n files of the queue
abbrev pub search_next : ℕ → Command
search_next n = Run (jobs.Search n)

-- a search within distance d from now on
abbrev pub distance_of : ℕ → Command
distance_of d = Do (changes.Distance d)

-- the question how much waits
abbrev pub queues : Command
queues = Ask queries.Queues

-- the branch that needs it most is to be built anew
abbrev pub rebalance : Command
rebalance = Tend upkeeps.Rebalance

-- the question how many pairs are within a distance
abbrev pub count_within : ℕ → Command
count_within m = Ask (queries.PairCount m)

-- so many files were searched further than before, and so many are left
abbrev pub searched : ℕ → ℕ → Reply
searched count left = Ok (answers.Searched (record { searched = count; left = left }))

-- so many files wait to be searched
abbrev pub queued : ℕ → Reply
queued count = Ok (answers.Queues (record { search = count; display = 0 }))

-- the first n pairs within a distance
abbrev pub pairs_from : ℕ → ℕ → Command
pairs_from n m = Ask (queries.Pairs (record { after = None; n = n; at_most = m }))

-- the first n pairs within a distance behind the one of files j and k
abbrev pub pairs_behind : ℕ → ℕ → ℕ → ℕ → Command
pairs_behind j k n m = Ask (queries.Pairs (record { after = Some (file j, file k); n = n; at_most = m }))

-- these pairs of files with their distances
abbrev pub listed : List (ℕ × ℕ × ℕ) → Reply
listed pairs = Ok (answers.Pairs (map (λ pair. (file pair.0, file pair.1, pair.2)) pairs))

-- a decision of files a and b
abbrev pub decide_of : Code → ℕ → ℕ → Command
decide_of code a b = Do (changes.Decision (record { code = code; a = file a; b = file b }))

-- the decision that file a is better than file b
abbrev pub better_than : ℕ → ℕ → Command
better_than = decide_of Better

-- the undoing of decision n
abbrev pub undo_of : ℕ → Command
undo_of n = Do (changes.Undo (record { 0 = n }))

-- the deletion of file k
abbrev pub delete_of : ℕ → Command
delete_of k = Do (changes.Live (file k) false)

-- and what takes it back
abbrev pub undelete_of : ℕ → Command
undelete_of k = Do (changes.Live (file k) true)

-- the question how file k is related
abbrev pub relations_of : ℕ → Command
relations_of k = Ask (queries.Relations (file k))

-- the question what decision n is
abbrev pub decision_of : ℕ → Command
decision_of n = Ask (queries.Decision (record { 0 = n }))

-- a new service
abbrev pub add_service : Command
add_service = Do changes.Service

abbrev pub services : List ℕ → List ServiceNo
services numbers = map (λ n. record { 0 = n }) numbers

-- service n takes the sibling pairs of these services, and the parent pairs of those
abbrev pub orders_of : ℕ → List ℕ → List ℕ → Command
orders_of n siblings parents = Do (changes.Orders (record { 0 = n }) (record { siblings = services siblings; parents = services parents }))

-- the tag of this text is mapped to file k in service 0 so
abbrev pub map_of : List ℕ → ℕ → MapState → Command
map_of text k state = Do (changes.Mapping (record { service = record { 0 = 0 }; tag = text; file = file k; state = Some state }))

-- and isn't mapped any more
abbrev pub unmap_of : List ℕ → ℕ → Command
unmap_of text k = Do (changes.Mapping (record { service = record { 0 = 0 }; tag = text; file = file k; state = None }))

-- the question which tags are mapped to file k in service n
abbrev pub mappings_of : ℕ → ℕ → Command
mappings_of n k = Ask (queries.Mappings (record { 0 = n }) (file k))

-- the sibling pair of these texts in service n is recorded
abbrev pub sibling_of : ℕ → List ℕ → List ℕ → Command
sibling_of n bad good = Do (changes.SiblingAdded (record { service = record { 0 = n }; first = bad; second = good }))

-- and is removed
abbrev pub no_sibling_of : ℕ → List ℕ → List ℕ → Command
no_sibling_of n bad good = Do (changes.SiblingRemoved (record { service = record { 0 = n }; first = bad; second = good }))

-- the parent pair of these texts in service n is recorded
abbrev pub parent_of : ℕ → List ℕ → List ℕ → Command
parent_of n child parent = Do (changes.ParentAdded (record { service = record { 0 = n }; first = child; second = parent }))

-- and is removed
abbrev pub no_parent_of : ℕ → List ℕ → List ℕ → Command
no_parent_of n child parent = Do (changes.ParentRemoved (record { service = record { 0 = n }; first = child; second = parent }))

-- the question what the ideal tag of this text is in service n
abbrev pub ideal_of : ℕ → List ℕ → Command
ideal_of n text = Ask (queries.Ideal (record { 0 = n }) text)

-- the refusals of a command in the order of their tests, where nothing is recorded, but for a job, whose change has them
abbrev pub refusals_of : Command → List Unmet
refusals_of (Ask q) = map (unmet no_records) (query_needs q)
refusals_of (Do c) = map (unmet no_records) (needs c)
refusals_of (Run j) = []
refusals_of (Tend u) = []

-- the refusal for this reason
abbrev pub no : Unmet → Reply
no why = Err (refusals.Unmet why)

-- whether the file was marked
abbrev pub changed : Bool → Reply
changed now = Ok (answers.Changed now)

-- how many pairs there are
abbrev pub counted : ℕ → Reply
counted n = Ok (answers.PairCount n)

-- the distance within which files are searched
abbrev pub within : ℕ → Reply
within d = Ok (answers.Distance d)

abbrev pub rebalanced : Reply
rebalanced = Ok answers.Rebalanced

abbrev pub imported : ℕ → ImportStatus → Reply
imported k status = Ok (answers.Imported (record { file = file k; status = status }))

-- the decision is recorded under number n
abbrev pub decided : ℕ → Reply
decided n = Ok (answers.Decided (record { 0 = n }))

-- the decision that is recorded, and whether it is undone
abbrev pub recorded : Code → ℕ → ℕ → Bool → Reply
recorded code a b undone = Ok (answers.Decision (record { code = code; a = file a; b = file b }) undone)

-- decision n is undone now
abbrev pub undone : ℕ → Reply
undone n = Ok (answers.Undone (record { 0 = n }))

-- how a file stands
abbrev pub standing : ℕ → List ℕ → List ℕ → List ℕ → Reply
standing king members alternates not_related = Ok (answers.Relations (record {
  king = file king;
  members = map file members;
  alternates = map file alternates;
  not_related = map file not_related;
}))

-- the file's king and the members of its group, where no other group is related to it
abbrev pub grouped : ℕ → List ℕ → Reply
grouped king members = standing king members [] []

-- the service that was added, or whose orders were set
abbrev pub served : ℕ → Reply
served n = Ok (answers.Service (record { 0 = n }))

-- the number of the tag that was mapped, and whether anything changed
abbrev pub mapped : ℕ → Bool → Reply
mapped n now = Ok (answers.Mapped (record { tag = record { 0 = n }; changed = now }))

-- the tags of a file by the state of their mapping
abbrev pub tagged : List (List ℕ) → List (List ℕ) → List (List ℕ) → Reply
tagged current pending deleted = Ok (answers.Mappings (record { current = current; pending = pending; deleted = deleted }))

-- the numbers of a sibling pair's tags
abbrev pub paired : ℕ → ℕ → Reply
paired bad good = Ok (answers.Sibling (record { first = record { 0 = bad }; second = record { 0 = good } }))

-- the numbers of a parent pair's tags
abbrev pub parented : ℕ → ℕ → Reply
parented child parent = Ok (answers.Parent (record { first = record { 0 = child }; second = record { 0 = parent } }))

-- the ideal tag with its ancestors
abbrev pub ideal_under : List ℕ → List (List ℕ) → Reply
ideal_under text ancestors = Ok (answers.Ideal (record { ideal = text; ancestors = ancestors }))

-- the ideal tag, which has no ancestors
abbrev pub ideal : List ℕ → Reply
ideal text = ideal_under text []

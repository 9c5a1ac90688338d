-- The commands: their names, their fields in order, and what they ask.
use Rattle.std.specs.Prelude.{◌^◌, true, false, List, [], ◌∷◌, codes, Some, None}
use Rattle.media_base.specs.declared.command.Command.TheVariants as commands
use Rattle.media_base.specs.declared.command.Upkeep.TheVariants as upkeeps
use Rattle.media_base.specs.declared.command.Job.TheVariants as jobs
use Rattle.media_base.specs.declared.command.Query.TheVariants as queries
use Rattle.media_base.specs.declared.change.Change.TheVariants as changes
use Rattle.media_base.specs.declared.refusal.FieldName.TheVariants as fields
use Rattle.command_text.specs.Forms.{Form, a_text, a_number, a_file, texts_or_none, some_files, a_code, a_service, an_order, a_state, a_file_beside, decision_of, place_of, Test, Made, is_sha, are_words, are_few, is_tag, is_near, is_batch, is_file_batch, Asking, asks, tests, Request}

-- a test, and then what is asked with what it makes
infixl 10 ◌>>=◌
abbrev pub ◌>>=◌ : (test : Test) → (Made test → Asking) → Asking
test >>= next = tests test next

pub data CommandName : Type 0 where
  Import : CommandName
  Delete : CommandName
  Undelete : CommandName
  Decide : CommandName
  Undo : CommandName
  Relations : CommandName
  Decision : CommandName
  Pairs : CommandName
  PairCount : CommandName
  SearchDistance : CommandName
  SearchJob : CommandName
  SearchFiles : CommandName
  Queues : CommandName
  RebalanceJob : CommandName
  AddService : CommandName
  Apply : CommandName
  Map : CommandName
  Unmap : CommandName
  Mappings : CommandName
  AddSibling : CommandName
  RemoveSibling : CommandName
  AddParent : CommandName
  RemoveParent : CommandName
  Ideal : CommandName

-- the commands, in the order in which their names are tried, some ten in a list
unfoldable pub tag_names : List CommandName
tag_names =
    CommandName.AddService ∷ CommandName.Apply ∷ CommandName.Map ∷ CommandName.Unmap ∷ CommandName.Mappings ∷ CommandName.AddSibling ∷ CommandName.RemoveSibling ∷ CommandName.AddParent ∷ CommandName.RemoveParent ∷ CommandName.Ideal
    ∷ []

unfoldable pub search_names : List CommandName
search_names =
    CommandName.Pairs ∷ CommandName.PairCount ∷ CommandName.SearchDistance ∷ CommandName.SearchJob ∷ CommandName.SearchFiles ∷ CommandName.Queues ∷ CommandName.RebalanceJob
    ∷ tag_names

abbrev pub all_names : List CommandName
all_names =
    CommandName.Import ∷ CommandName.Delete ∷ CommandName.Undelete ∷ CommandName.Decide ∷ CommandName.Undo ∷ CommandName.Relations ∷ CommandName.Decision
    ∷ search_names

-- a number of 32 bits, or of 64
abbrev pub small : Form
small = a_number (2 ^ 32)

abbrev pub large : Form
large = a_number (2 ^ 64)

-- each command: its name in `do`, its fields in their order, and what it asks with what they say, behind the tests in their order
abbrev pub request_of : CommandName → Request
request_of CommandName.Import = record {
  text = codes "import";
  fields = (fields.Sha256, a_text) ∷ (fields.Hashes, texts_or_none) ∷ (fields.Size, large) ∷ (fields.Width, small) ∷ (fields.Height, small) ∷ [];
  asked = λ digits texts size width height. do
    sha ← is_sha digits
    words ← are_words texts
    hashes ← are_few words
    asks (commands.Do (changes.File (record { sha = sha; hashes = hashes; size = size; width = width; height = height })));
}
request_of CommandName.Delete = record { text = codes "delete"; fields = (fields.File, a_file) ∷ []; asked = λ file. asks (commands.Do (changes.Live file false)) }
request_of CommandName.Undelete = record { text = codes "undelete"; fields = (fields.File, a_file) ∷ []; asked = λ file. asks (commands.Do (changes.Live file true)) }
request_of CommandName.Decide = record {
  text = codes "decide";
  fields = (fields.Code, a_code) ∷ (fields.A, a_file) ∷ (fields.B, a_file) ∷ [];
  asked = λ code a b. asks (commands.Do (changes.Decision (decision_of code a b)));
}
request_of CommandName.Undo = record { text = codes "undo"; fields = (fields.Decision, small) ∷ []; asked = λ decision. asks (commands.Do (changes.Undo (record { 0 = decision }))) }
request_of CommandName.Relations = record { text = codes "relations"; fields = (fields.File, a_file) ∷ []; asked = λ file. asks (commands.Ask (queries.Relations file)) }
request_of CommandName.Decision = record { text = codes "decision"; fields = (fields.Decision, small) ∷ []; asked = λ decision. asks (commands.Ask (queries.Decision (record { 0 = decision }))) }
request_of CommandName.Pairs = record {
  text = codes "pairs";
  fields = (fields.AfterJ, a_file_beside fields.AfterK) ∷ (fields.AfterK, a_file_beside fields.AfterJ) ∷ (fields.N, large) ∷ (fields.AtMost, large) ∷ [];
  asked = λ after_j after_k number farthest. do
    at_most ← is_near farthest
    n ← is_batch number
    asks (commands.Ask (queries.Pairs (record { after = place_of after_j after_k; n = n; at_most = at_most })));
}
request_of CommandName.PairCount = record {
  text = codes "pair_count";
  fields = (fields.AtMost, large) ∷ [];
  asked = λ farthest. is_near farthest >>= (λ at_most. asks (commands.Ask (queries.PairCount at_most)));
}
request_of CommandName.SearchDistance = record {
  text = codes "search_distance";
  fields = (fields.Distance, large) ∷ [];
  asked = λ number. is_near number >>= (λ distance. asks (commands.Do (changes.Distance distance)));
}
request_of CommandName.SearchJob = record {
  text = codes "search_job";
  fields = (fields.N, large) ∷ [];
  asked = λ number. is_batch number >>= (λ n. asks (commands.Run (jobs.Search n)));
}
request_of CommandName.SearchFiles = record {
  text = codes "search_files";
  fields = (fields.Files, some_files) ∷ (fields.Distance, large) ∷ [];
  asked = λ listed number. do
    distance ← is_near number
    files ← is_file_batch listed
    asks (commands.Do (changes.Searched (record { files = files; distance = distance })));
}
request_of CommandName.Queues = record { text = codes "queues"; fields = []; asked = asks (commands.Ask queries.Queues) }
request_of CommandName.RebalanceJob = record { text = codes "rebalance_job"; fields = []; asked = asks (commands.Tend upkeeps.Rebalance) }
request_of CommandName.AddService = record { text = codes "add_service"; fields = []; asked = asks (commands.Do changes.Service) }
request_of CommandName.Apply = record {
  text = codes "apply";
  fields = (fields.Service, a_service) ∷ (fields.Siblings, an_order) ∷ (fields.Parents, an_order) ∷ [];
  asked = λ service siblings parents. asks (commands.Do (changes.Orders service (record { siblings = siblings; parents = parents })));
}
request_of CommandName.Map = record {
  text = codes "map";
  fields = (fields.Service, a_service) ∷ (fields.Tag, a_text) ∷ (fields.File, a_file) ∷ (fields.State, a_state) ∷ [];
  asked = λ service text file state. is_tag text >>= (λ tag. asks (commands.Do (changes.Mapping (record { service = service; tag = tag; file = file; state = Some state }))));
}
request_of CommandName.Unmap = record {
  text = codes "unmap";
  fields = (fields.Service, a_service) ∷ (fields.Tag, a_text) ∷ (fields.File, a_file) ∷ [];
  asked = λ service text file. is_tag text >>= (λ tag. asks (commands.Do (changes.Mapping (record { service = service; tag = tag; file = file; state = None }))));
}
request_of CommandName.Mappings = record {
  text = codes "mappings";
  fields = (fields.Service, a_service) ∷ (fields.File, a_file) ∷ [];
  asked = λ service file. asks (commands.Ask (queries.Mappings service file));
}
request_of CommandName.AddSibling = record {
  text = codes "add_sibling";
  fields = (fields.Service, a_service) ∷ (fields.Bad, a_text) ∷ (fields.Good, a_text) ∷ [];
  asked = λ service bad_text good_text. do
    bad ← is_tag bad_text
    good ← is_tag good_text
    asks (commands.Do (changes.SiblingAdded (record { service = service; first = bad; second = good })));
}
request_of CommandName.RemoveSibling = record {
  text = codes "remove_sibling";
  fields = (fields.Service, a_service) ∷ (fields.Bad, a_text) ∷ (fields.Good, a_text) ∷ [];
  asked = λ service bad_text good_text. do
    bad ← is_tag bad_text
    good ← is_tag good_text
    asks (commands.Do (changes.SiblingRemoved (record { service = service; first = bad; second = good })));
}
request_of CommandName.AddParent = record {
  text = codes "add_parent";
  fields = (fields.Service, a_service) ∷ (fields.Child, a_text) ∷ (fields.Parent, a_text) ∷ [];
  asked = λ service child_text parent_text. do
    child ← is_tag child_text
    parent ← is_tag parent_text
    asks (commands.Do (changes.ParentAdded (record { service = service; first = child; second = parent })));
}
request_of CommandName.RemoveParent = record {
  text = codes "remove_parent";
  fields = (fields.Service, a_service) ∷ (fields.Child, a_text) ∷ (fields.Parent, a_text) ∷ [];
  asked = λ service child_text parent_text. do
    child ← is_tag child_text
    parent ← is_tag parent_text
    asks (commands.Do (changes.ParentRemoved (record { service = service; first = child; second = parent })));
}
request_of CommandName.Ideal = record {
  text = codes "ideal";
  fields = (fields.Service, a_service) ∷ (fields.Tag, a_text) ∷ [];
  asked = λ service text. is_tag text >>= (λ tag. asks (commands.Ask (queries.Ideal service tag)));
}

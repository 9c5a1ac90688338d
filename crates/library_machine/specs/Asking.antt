-- What is told of the records, computed anew from them.
use Rattle.std.specs.Prelude.{false, List, [], ◌∷◌, length, map, Option, Some, None, slice_get, Result}
use Rattle.media_base.specs.declared.command.Query.{Query}
use Rattle.media_base.specs.declared.command.Query.TheVariants as queries
use Rattle.media_base.specs.declared.refusal.Unmet.{Unmet}
use Rattle.media_base.specs.declared.reply.Answer.{Answer}
use Rattle.media_base.specs.declared.reply.Answer.TheVariants as answers
use Rattle.file_records.specs.Living.{deleted}
use Rattle.file_records.specs.Near.{near_pairs}
use Rattle.decision_book.specs.declared.decision_row.DecisionRow.{DecisionRow}
use Rattle.decision_book.specs.Standing as book
use Rattle.relation_groups.specs.Relations as groups
use Rattle.potential_pairs.specs.Pages.{named, page_of, within}
use Rattle.potential_pairs.specs.Potential.{Row, potentials}
use Rattle.library_machine.specs.Guards.{guarded}
use Rattle.library_machine.specs.Needs.{Need, decision_there, file_there, service_there, tag_there, is_met, unmet}
use Rattle.library_machine.specs.Records.{Records}
use Rattle.library_machine.specs.Relating.{ideal_told}
use Rattle.library_machine.specs.Searches.{search_queue}
use Rattle.library_machine.specs.Tagging.{file_mappings}

-- the relations that the standing decisions make
abbrev pub related : Records → groups.Relations
related r = groups.relations (book.standing r.decisions)

-- the potential pairs of the files, in the order of their names
abbrev pub potential_pairs : Records → List Row
potential_pairs r = potentials (length r.files) (related r) (deleted r.files) (near_pairs r.files)

-- Where there is no decision nothing is told, and no query comes to that.
abbrev pub decision_told : Option DecisionRow → Answer
decision_told (Some row) = answers.Decision (book.decision_of row) row.undone
decision_told None = answers.Changed false

-- the needs in the order of their refusals
unfoldable pub query_needs : Query → List Need
query_needs (queries.Relations f) = file_there f ∷ []
query_needs (queries.Decision n) = decision_there n ∷ []
query_needs (queries.Pairs page) = []
query_needs (queries.PairCount m) = []
query_needs queries.Queues = []
query_needs (queries.Mappings service file) = file_there file ∷ service_there service ∷ []
query_needs (queries.Ideal service text) = service_there service ∷ tag_there text ∷ []

-- The first pairs after a place, and how many pairs there are, are those within a distance. No tags wait yet.
unfoldable pub answer : Records → Query → Answer
answer r (queries.Relations f) = answers.Relations (groups.relations_at (length r.files) (book.standing r.decisions) f)
answer r (queries.Decision n) = decision_told (slice_get r.decisions n.0)
answer r (queries.Pairs page) = answers.Pairs (map named (page_of page.after page.n page.at_most (potential_pairs r)))
answer r (queries.PairCount m) = answers.PairCount (length (within m (potential_pairs r)))
answer r queries.Queues = answers.Queues (record { search = length (search_queue r); display = 0 })
answer r (queries.Mappings service file) = answers.Mappings (file_mappings r service file)
answer r (queries.Ideal service text) = answers.Ideal (ideal_told r service text)

-- the answer, or why there is none
abbrev pub asked : Records → Query → Result Answer Unmet
asked r q = guarded (is_met r) (unmet r) (query_needs q) (answer r q)

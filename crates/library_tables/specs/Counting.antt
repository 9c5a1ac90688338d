-- How much is read at most through tables that count, where that is bounded.
use Rattle.std.specs.Prelude.{◌≤◌, ◌+◌, ◌*◌, ℕ, List, length, filter, Option, Some, None, IfSome, IsSomeAnd}
use Rattle.media_types.specs.declared.numbers.FileNo.{FileNo}
use Rattle.media_types.specs.declared.numbers.ServiceNo.{ServiceNo}
use Rattle.media_types.specs.declared.searching.Searching.{Searching}
use Rattle.media_base.specs.declared.change.Change.{Change}
use Rattle.media_base.specs.declared.change.Change.TheVariants as changes
use Rattle.media_base.specs.declared.command.Command.{Command}
use Rattle.media_base.specs.declared.command.Command.TheVariants as commands
use Rattle.media_base.specs.declared.command.Job.{Job}
use Rattle.media_base.specs.declared.command.Job.TheVariants as jobs
use Rattle.media_base.specs.declared.command.Query.{Query}
use Rattle.media_base.specs.declared.command.Query.TheVariants as queries
use Rattle.file_records.specs.Near.{near_pairs}
use Rattle.potential_pairs.specs.Planning.{has_file}
use Rattle.vp_tree.specs.declared.node.NodeView.{NodeView}
use Rattle.near_search.specs.Work.{work}
use Rattle.media_base.specs.declared.reply.PairTags.{PairTags}
use Rattle.tag_relations.specs.Work.{cluster_work}
use Rattle.tag_store.specs.Mapped.{tags_of_file}
use Rattle.library_machine.specs.Jobs.{Deed, tells, makes, worked_out}
use Rattle.library_machine.specs.Records.{Records}
use Rattle.library_machine.specs.Relating.{pair_tags, with_parent, with_sibling, without_parent, without_sibling}
use Rattle.library_machine.specs.Tagging.{numbered}
use Rattle.library_machine.specs.Searches.{next_search, risen}

-- what a search meets: its files, and what is met for the hashes of those whose searched distance rises
abbrev pub search_meets : Records → List NodeView → Searching → ℕ
search_meets r tree s = length s.files + work tree r.files s.distance (risen r s)

-- A bound on what a deletion reads, or its taking back: eight for each near pair that the file is of, and
-- sixteen. It may read less.
abbrev pub live_reads : Records → FileNo → ℕ
live_reads r file = 8 * (2 + length (filter (λ row. has_file file.0 row.0) (near_pairs r.files)))

-- one for each tag that is mapped to the file in the service, and two
abbrev pub mappings_reads : Records → ServiceNo → FileNo → ℕ
mappings_reads r service file = 2 + length (tags_of_file r.mappings service.0 file.0)

-- the work on the clusters of a pair's two tags: how many tags they have together, and how many rows of both kinds,
-- over all pairs ever recorded
abbrev pub pair_work : Records → PairTags → ℕ
pair_work r pair = cluster_work r.siblings r.parents (length r.tags) pair.first.0 pair.second.0

-- A bound on what a change of a pair reads, by the records that it leaves, or would leave.
unfoldable pub relation_reads : Records → PairTags → ℕ
relation_reads r pair = 512 * pair_work r pair

-- four for each of the tag's cluster
abbrev pub ideal_reads : Records → ServiceNo → List ℕ → ℕ
ideal_reads r service text = 4 * cluster_work r.siblings r.parents (length r.tags) (numbered r text).0 (numbered r text).0

-- a decision is one row; for a page of n pairs the heads of 17 distances, and two for each pair
abbrev pub query_reads : Records → Query → Option ℕ
query_reads r (queries.Decision n) = Some 1
query_reads r (queries.Pairs page) = Some (2 * page.n + 17)
query_reads r (queries.Mappings service file) = Some (mappings_reads r service file)
query_reads r (queries.Ideal service text) = Some (ideal_reads r service text)
query_reads r query = None

abbrev pub change_reads : Records → List NodeView → Change → Option ℕ
change_reads r tree (changes.Live file live) = Some (live_reads r file)
change_reads r tree (changes.Searched s) = Some (32 * (1 + search_meets r tree s))
change_reads r tree (changes.Mapping mapping) = Some 1
change_reads r tree (changes.SiblingAdded pair) = Some (relation_reads (with_sibling r pair) (pair_tags r pair))
change_reads r tree (changes.SiblingRemoved pair) = Some (relation_reads (without_sibling r pair) (pair_tags r pair))
change_reads r tree (changes.ParentAdded pair) = Some (relation_reads (with_parent r pair) (pair_tags r pair))
change_reads r tree (changes.ParentRemoved pair) = Some (relation_reads (without_parent r pair) (pair_tags r pair))
change_reads r tree change = None

-- until the change is worked out
abbrev pub job_reads : Records → Job → Option ℕ
job_reads r (jobs.Search n) = Some (1 + length (next_search r n).files)

-- where nothing is to be done, nothing more is read
abbrev pub deed_reads : Records → List NodeView → Deed → Option ℕ
deed_reads r tree (tells answer) = Some 0
deed_reads r tree (makes change) = change_reads r tree change

-- the one and then the other, where both are bounded
abbrev pub together : Option ℕ → Option ℕ → Option ℕ
together (Some a) (Some b) = Some (a + b)
together (Some a) None = None
together None other = None

-- for what is done: a job is worked out, and then its change is made
abbrev pub most_reads : Records → List NodeView → Command → Option ℕ
most_reads r tree (commands.Ask q) = query_reads r q
most_reads r tree (commands.Do c) = change_reads r tree c
most_reads r tree (commands.Run j) = together (job_reads r j) (deed_reads r tree (worked_out r j))
most_reads r tree (commands.Tend u) = None

-- the count of steps is within the bound, where there is one
abbrev pub IsWithin : Option ℕ → ℕ → ℕ → Type 0
IsWithin most old new = IfSome most (λ n. new ≤ old + n)

-- sixty-four for each that a search meets, and sixty-four
abbrev pub search_reads : Records → List NodeView → Searching → ℕ
search_reads r tree s = 64 * (1 + search_meets r tree s)

-- a search reads no more, whether its files are named or are the next of the queue
abbrev pub SearchesReadFew : Type 0
SearchesReadFew = (r : Records) (tree : List NodeView) →
    ((s : Searching) → IsSomeAnd (most_reads r tree (commands.Do (changes.Searched s))) (λ most. most ≤ search_reads r tree s))
    × ((n : ℕ) → IsSomeAnd (most_reads r tree (commands.Run (jobs.Search n))) (λ most. most ≤ search_reads r tree (next_search r n)))

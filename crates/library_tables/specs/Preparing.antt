-- What is prepared for a change, and what a job works out.
use Rattle.std.specs.Prelude.{◌≡◌, Bool, true, false, List, [], Ok, Err, Option, Some, None}
use Rattle.media_types.specs.declared.hash.Hash64.{Hash64}
use Rattle.media_base.specs.declared.change.Change.{Change}
use Rattle.media_base.specs.declared.change.Change.TheVariants as changes
use Rattle.media_base.specs.declared.command.Job.{Job}
use Rattle.media_base.specs.declared.command.Upkeep.{Upkeep}
use Rattle.media_base.specs.declared.command.Upkeep.TheVariants as upkeeps
use Rattle.media_base.specs.declared.refusal.Unmet.{Unmet}
use Rattle.media_base.specs.declared.refusal.Unmet.TheVariants as whys
use Rattle.media_base.specs.declared.reply.Answer.{Answer}
use Rattle.file_records.specs.Words.{new_words, words_of}
use Rattle.vp_tree.specs.Marking.{IsRebalanced, MarkedTree}
use Rattle.library_machine.specs.Changing.{answer_to, does}
use Rattle.library_machine.specs.Effects.{effect}
use Rattle.library_machine.specs.Jobs.{makes, tells, worked_out}
use Rattle.library_machine.specs.Records.{Records}
use Rattle.library_tables.specs.declared.plan.Deed.{Deed}
use Rattle.library_tables.specs.declared.plan.Deed.TheVariants as deeds
use Rattle.library_tables.specs.declared.plan.Prepared.{Prepared}
use Rattle.library_tables.specs.declared.plan.Prepared.TheVariants as prepared
use Rattle.library_tables.specs.declared.plan.TablesPlan.{TablesPlan}
use Rattle.library_tables.specs.declared.plan.TablesPlan.TheVariants as plans
use Rattle.library_tables.specs.declared.tag_pairs.PlannedPair.{PlannedPair}
use Rattle.library_tables.specs.Decisions.{LeadsDecide, LeadsUndo}
use Rattle.library_tables.specs.Deletion.{LeadsLive}
use Rattle.library_tables.specs.Imports.{LeadsImport, words_planned}
use Rattle.library_tables.specs.Searches.{LeadsDistance, LeadsSearch}
use Rattle.library_tables.specs.Relations.{LeadsPair}
use Rattle.library_tables.specs.Tables.{TablesView, records_of}
use Rattle.library_tables.specs.Tags.{LeadsMapping, LeadsOrders, LeadsService}

-- the plan was made of these tables, and leads them to these records
abbrev pub Leads : TablesPlan → TablesView → Records → Type 0
Leads (plans.Import plan) t after = LeadsImport plan t after
Leads (plans.Live plan) t after = LeadsLive plan t after
Leads (plans.Decide plan) t after = LeadsDecide plan t after
Leads (plans.Undo plan) t after = LeadsUndo plan t after
Leads (plans.Distance plan) t after = LeadsDistance plan t after
Leads (plans.Search plan) t after = LeadsSearch plan t after
Leads plans.Service t after = LeadsService t after
Leads (plans.Orders plan) t after = LeadsOrders plan t after
Leads (plans.Mapping plan) t after = LeadsMapping plan t after
Leads (plans.Pair plan) t after = LeadsPair plan t after

-- the words that a plan places in the tree: an import its new ones, all other plans none
abbrev pub words_placed : TablesPlan → List Hash64
words_placed (plans.Import plan) = words_planned plan.words.items
words_placed plan = []

-- the words that a change brings: those of an imported file that no file has yet
abbrev pub words_brought : Records → Change → List Hash64
words_brought r (changes.File file) = new_words (words_of r.files) file.hashes
words_brought r change = []

-- what comes of a planned pair: it is refused where a tag would imply too many, and where the rows are full
abbrev pub pair_outcome : Option Unmet → Bool → PlannedPair → Answer → Prepared
pair_outcome (Some why) full plan answer = prepared.Refused why
pair_outcome None true plan answer = prepared.Refused whys.FullRelations
pair_outcome None false plan answer = prepared.Ready (plans.Pair plan) answer

-- what was prepared is what the change comes to, from these tables on
abbrev pub IsPrepared : Change → TablesView → Prepared → Type 0
IsPrepared c t (prepared.Refused why) = does (records_of t) c ≡ Err why
IsPrepared c t (prepared.Idle answer) = (does (records_of t) c ≡ Ok true) × (answer_to (records_of t) c ≡ answer)
IsPrepared c t (prepared.Ready plan answer) =
    (does (records_of t) c ≡ Ok false) × (answer_to (records_of t) c ≡ answer)
    × Leads plan t (effect (records_of t) c) × (words_placed plan ≡ words_brought (records_of t) c)

-- what upkeep does to the tree and its marks
abbrev pub IsTended : Upkeep → MarkedTree → MarkedTree → Type 0
IsTended upkeeps.Rebalance old new = IsRebalanced old new

-- the deed is what the job works out
abbrev pub IsWorkedOut : Records → Job → Deed → Type 0
IsWorkedOut r job (deeds.Tells answer) = worked_out r job ≡ tells answer
IsWorkedOut r job (deeds.Makes change) = worked_out r job ≡ makes change

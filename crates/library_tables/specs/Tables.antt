-- The tables of a library: what they record, and what keeps them in step.
use Rattle.std.specs.Prelude.{◌≡◌, ℕ, List, length, map}
use Rattle.spare_tables.specs.Table.{Table}
use Rattle.file_records.specs.Near.{near_pairs}
use Rattle.file_records.specs.Living.{deleted}
use Rattle.file_records.specs.Searching.{queue_of}
use Rattle.file_records.specs.Words.{words_of}
use Rattle.file_records.specs.declared.file_row.FileRow.{FileRow}
use Rattle.decision_book.specs.Recorded.{Recorded}
use Rattle.decision_book.specs.Standing.{standing}
use Rattle.relation_groups.specs.Reading.{Kept, relations_in, size_of}
use Rattle.relation_groups.specs.Relations.{Relations, relations}
use Rattle.potential_pairs.specs.Potential.{AreOf, PairsView}
use Rattle.potential_pairs.specs.Potential.{KeptPairs}
use Rattle.vp_tree.specs.declared.node.NodeView.{NodeView}
use Rattle.vp_tree.specs.Marking.{MarkedTree}
use Rattle.vp_tree.specs.Nodes.{words_in}
use Rattle.tree_upkeep.specs.Marks.{AreNodes}
use Rattle.tree_upkeep.specs.Queue.{Work}
use Rattle.media_types.specs.declared.numbers.ServiceNo.{ServiceNo}
use Rattle.tag_relations.specs.Related.{Related}
use Rattle.tag_types.specs.declared.orders.Orders.{Orders}
use Rattle.tag_store.specs.Mapped.{Row}
use Rattle.tag_store.specs.Numbering.{Numbered}
use Rattle.library_machine.specs.Records.{Records, Fits}

pub record TablesView : Type 0 where
  pub files : Table FileRow
  pub book : Recorded
  pub groups : Kept
  pub tree : Table NodeView
  pub pairs : KeptPairs
  pub work : Work
  pub distance : ℕ
  pub tags : Numbered
  pub services : List Orders
  pub mappings : Table Row
  pub relations : Related

-- what the tables record
abbrev pub records_of : TablesView → Records
records_of t = record {
  files = t.files.rows;
  decisions = t.book.rows;
  distance = t.distance;
  tags = t.tags.texts;
  services = t.services;
  mappings = t.mappings.rows;
  siblings = t.relations.siblings.rows;
  parents = t.relations.parents.rows;
}

-- a tree with the marks of its nodes
abbrev pub with_marks : Table NodeView → Work → MarkedTree
with_marks tree work = record { nodes = tree.rows; marks = work.marks }

abbrev pub marked_tree : TablesView → MarkedTree
marked_tree t = with_marks t.tree t.work

-- the tree has the hashes of the files, by number
abbrev pub HasWords : List NodeView → Records → Type 0
HasWords tree r = words_in tree ≡ words_of r.files

-- the near pairs and the deleted files are those of the rows, and the potential pairs are those that they
-- make of the groups
pub record ArePairsOf (R : Relations) (rows : List FileRow) (pairs : PairsView) : Type 0 where
  pub near : pairs.near ≡ near_pairs rows
  pub gone : pairs.gone ≡ deleted rows
  pub of : AreOf R pairs

-- the services whose sibling pairs each service takes, in order
abbrev pub sibling_orders : List Orders → List (List ServiceNo)
sibling_orders services = map (λ orders. orders.siblings) services

-- and those whose parent pairs
abbrev pub parent_orders : List Orders → List (List ServiceNo)
parent_orders services = map (λ orders. orders.parents) services

-- The tables speak of the same files, and the groups are those that the standing decisions make. The tree
-- has the hashes of the files, by number, and marks are of its nodes. The pairs are those of the files and
-- groups, and the queue has the files that are to be searched. Siblings and parents are taken by the services' orders.
pub record AreInStep (t : TablesView) : Type 0 where
  pub fits : Fits (records_of t)
  pub decided : t.book.files ≡ length t.files.rows
  pub grouped : size_of t.groups ≡ length t.files.rows
  pub related : relations_in t.groups ≡ relations (standing t.book.rows)
  pub words : HasWords t.tree.rows (records_of t)
  pub marked : AreNodes t.tree.rows t.work.marks
  pub paired : ArePairsOf (relations_in t.groups) t.files.rows t.pairs.rows
  pub queued : t.work.queue ≡ queue_of t.distance t.files.rows
  pub ordered : t.relations.siblings.orders ≡ sibling_orders t.services
  pub parents_ordered : t.relations.parents.orders ≡ parent_orders t.services

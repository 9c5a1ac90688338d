-- What contracts see of a library, and what ties its records to its keeper.
use Rattle.std.specs.Prelude.{◌≡◌, ◌≢◌, ℕ, Bool, true, List, [], Option, Some, None, Ok, Err}
use Rattle.media_types.specs.declared.hash.Hash64.{Hash64}
use Rattle.media_base.specs.declared.change.Change.{Change}
use Rattle.media_base.specs.declared.command.Command.{Command}
use Rattle.media_base.specs.declared.command.Command.TheVariants as commands
use Rattle.media_base.specs.Keeping.{Readings, HasGivenAll}
use Rattle.media_base.specs.Replying.{Reply}
use Rattle.vp_tree.specs.declared.node.NodeView.{NodeView}
use Rattle.vp_tree.specs.Building.{IsBuiltWhole}
use Rattle.vp_tree.specs.Marking.{ArePlaced, MarkedTree}
use Rattle.library_machine.specs.Opening.{opened}
use Rattle.library_machine.specs.Records.{Records, Fits}
use Rattle.library_machine.specs.Step.{State}
use Rattle.library_tables.specs.Preparing.{words_brought, IsTended}
use Rattle.library_tables.specs.Tables.{HasWords}

pub record LibraryView (K : Type 0) : Type 0 where
  pub state : State
  -- the metric tree over the hashes, with the marks of its nodes
  pub tree : MarkedTree
  pub keeper : K

-- the tree with which a library of these records opens: it is built of all their words, and has no mark
pub record IsFresh (tree : MarkedTree) (r : Records) : Type 0 where
  pub words : HasWords tree.nodes r
  pub whole : IsBuiltWhole tree.nodes
  pub unmarked : tree.marks ≡ []

-- the words that come with the change of a step, where it isn't refused
abbrev pub words_gained : Records → Option Change → Reply → List Hash64
words_gained r None reply = []
words_gained r (Some change) (Ok answer) = words_brought r change
words_gained r (Some change) (Err why) = []

-- An import that is accepted places its new words in the tree, in their order, and each marks the branch that it
-- leaves lopsided. Other changes leave the tree and its marks.
abbrev pub GrowsBy : Records → Option Change → Reply → MarkedTree → MarkedTree → Type 0
GrowsBy r change reply old new = ArePlaced old (words_gained r change reply) new

-- What a command makes of the tree and its marks: upkeep that is done tends them, and else they grow by the change.
-- So all that is refused leaves them.
abbrev pub Follows : Records → Command → Option Change → Reply → MarkedTree → MarkedTree → Type 0
Follows r (commands.Tend upkeep) change (Ok answer) old new = IsTended upkeep old new
Follows r command change reply old new = GrowsBy r change reply old new

-- The records are such as a session has, and the tree has their words; the keeper has started and given all that it told, and where it
-- tells what it keeps, that opens the records.
pub record IsInStep {K : Type 0} (ready : K → Type 0) (place : K → Option (ℕ × ℕ)) (alien : K → Option Bool) (kept : K → Option Readings) (records : Records) (tree : List NodeView) (keeper : K) : Type 0 where
  pub fits : Fits records
  pub words : HasWords tree records
  pub is_ready : ready keeper
  pub all_given : HasGivenAll (place keeper)
  pub own : alien keeper ≢ Some true
  pub opens : (readings : Readings) → kept keeper ≡ Some readings → opened readings ≡ Ok records

-- What is recorded once a change is made.
use Rattle.std.specs.Prelude.{[], ◌∷◌, ◌++◌}
use Rattle.media_base.specs.declared.change.Change.{Change}
use Rattle.media_base.specs.declared.change.Change.TheVariants as changes
use Rattle.file_records.specs.Living.{with_live_mark}
use Rattle.file_records.specs.Rows.{row_of}
use Rattle.decision_book.specs.Recorded.{undone_at}
use Rattle.decision_book.specs.Standing as book
use Rattle.library_machine.specs.Records.{Records}
use Rattle.library_machine.specs.Relating.{with_parent, with_sibling, without_parent, without_sibling}
use Rattle.library_machine.specs.Searches.{after_search}
use Rattle.library_machine.specs.Tagging.{with_mapping, with_orders, with_service}

-- What is recorded then, where it isn't idle. A marked file keeps all else; an undone decision keeps its number; and
-- how far each file was searched stays when the distance changes.
unfoldable pub effect : Records → Change → Records
effect r (changes.File file) = record r { files = r.files ++ row_of file ∷ [] }
effect r (changes.Live f live) = record r { files = with_live_mark f.0 live r.files }
effect r (changes.Decision d) = record r { decisions = r.decisions ++ book.row_of d ∷ [] }
effect r (changes.Undo n) = record r { decisions = undone_at n.0 r.decisions }
effect r (changes.Distance d) = record r { distance = d }
effect r (changes.Searched s) = after_search r s
effect r changes.Service = with_service r
effect r (changes.Orders service orders) = with_orders r service orders
effect r (changes.Mapping m) = with_mapping r m
effect r (changes.SiblingAdded pair) = with_sibling r pair
effect r (changes.SiblingRemoved pair) = without_sibling r pair
effect r (changes.ParentAdded pair) = with_parent r pair
effect r (changes.ParentRemoved pair) = without_parent r pair

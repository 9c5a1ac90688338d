-- The potential pairs where no file waits to be searched.
use Rattle.std.specs.Prelude.{◌≡◌, ◌≤◌, ℕ, List, [], length, map}
use Rattle.media_types.specs.declared.pair_page.PairPage.{PairPage}
use Rattle.media_base.specs.declared.command.Caller.{Caller}
use Rattle.media_base.specs.declared.command.Command.TheVariants.{Ask}
use Rattle.media_base.specs.declared.command.Query.TheVariants as queries
use Rattle.media_base.specs.declared.reply.Answer.TheVariants as answers
use Rattle.spare_tables.specs.Pairs.{pairs_below}
use Rattle.file_records.specs.Near.{distance_at}
use Rattle.file_records.specs.Living.{deleted}
use Rattle.potential_pairs.specs.Pages.{named, page_of, within}
use Rattle.potential_pairs.specs.Potential.{Row, potentials}
use Rattle.library_machine.specs.Asking.{potential_pairs, related}
use Rattle.library_machine.specs.Records.{Records}
use Rattle.library_machine.specs.Searches.{search_queue}
use Rattle.library_machine.specs.Step.{State, step, told}

-- the potential pairs that the distances of all pairs of files make, however far the files were searched
abbrev pub covered_pairs : Records → List Row
covered_pairs r =
    potentials (length r.files) (related r) (deleted r.files) (pairs_below (length r.files) (distance_at r.files))

-- no file waits to be searched within the library's distance, and m isn't over it
pub record IsSearched (r : Records) (m : ℕ) : Type 0 where
  pub none_waits : search_queue r ≡ []
  pub reached : m ≤ r.distance

-- the potential pairs within m are those of all live files that have a hash
abbrev pub PairsCover : Type 0
PairsCover = (r : Records) (m : ℕ) → IsSearched r m → within m (potential_pairs r) ≡ within m (covered_pairs r)

-- and such are those that a page lists
abbrev pub PagesCover : Type 0
PagesCover = (s : State) (caller : Caller) (page : PairPage) → IsSearched s.kept page.at_most →
    step s caller (Ask (queries.Pairs page))
    ≡ told s.desks (answers.Pairs (map named (page_of page.after page.n page.at_most (covered_pairs s.kept))))

-- and that are counted
abbrev pub CountsCover : Type 0
CountsCover = (s : State) (caller : Caller) (m : ℕ) → IsSearched s.kept m →
    step s caller (Ask (queries.PairCount m))
    ≡ told s.desks (answers.PairCount (length (within m (covered_pairs s.kept))))

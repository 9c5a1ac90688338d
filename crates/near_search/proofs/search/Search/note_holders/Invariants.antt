use Rattle.std.proofs.Common.{◌≡◌, ◌≤◌, ◌+◌, ◌*◌, ◌++◌, length}
use Rattle.std.specs.List.{filter_map}
use Rattle.file_records.specs.Searching.{searched}
use Rattle.near_search.specs.Noting.{near_pair}
use Rattle.near_search.proofs.Holders.{holders_up_to, left_after}
use Rattle.near_search.proofs.search.Search.note_holders.Given as goal

abbrev pub invariant-loop-other : goal.invariant-loop-other
invariant-loop-other g l =
    let rows = l.self.files.now.rows in
    record {
      noted : l.found ≡ l.initial.found ++ filter_map (near_pair (searched l.self.distance l.self.risen.now rows) l.file) (holders_up_to rows l.word.0 l.after);
      reads : l.steps ≤ l.initial.steps + 4 * length (holders_up_to rows l.word.0 l.after);
    }

abbrev pub decreases-loop-other : goal.decreases-loop-other
decreases-loop-other g l = left_after (length l.self.files.now.rows) l.after

use Rattle.std.proofs.Common.{◌≡◌, ◌≤◌, ◌+◌, ◌*◌, ◌++◌, take, sum_by}
use Rattle.std.specs.List.{flat_map}
use Rattle.near_search.specs.Noting.{noted_near}
use Rattle.near_search.specs.Work.{met}
use Rattle.near_search.proofs.search.Search.note_file.Given as goal

abbrev pub invariant-loop-hash : goal.invariant-loop-hash
invariant-loop-hash g l =
    let rows = l.self.files.now.rows in
    let tree = l.self.tree.now.rows in
    record {
      noted : l.found ≡ l.initial.found ++ flat_map (noted_near tree rows l.self.distance l.self.risen.now l.file) (take l.hash-index l.hash-items);
      reads : l.steps ≤ l.initial.steps + 5 * sum_by (met tree rows l.self.distance) (take l.hash-index l.hash-items);
    }

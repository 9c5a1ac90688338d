use Rattle.std.proofs.Common.{◌≡◌, ◌≤◌, ◌+◌, ◌*◌, take, sum_by}
use Rattle.std.specs.List.{flat_map}
use Rattle.near_search.specs.Noting.{noted_of}
use Rattle.near_search.specs.Work.{met_of}
use Rattle.near_search.proofs.finding.find_near.Given as goal

abbrev pub invariant-loop-file : goal.invariant-loop-file
invariant-loop-file g l =
    let rows = l.files.rows in
    let tree = l.tree.rows in
    record {
      noted : l.found ≡ flat_map (noted_of tree rows l.search.distance l.risen) (take l.file-index l.risen);
      reads : l.steps ≤ l.initial.steps + (l.file-index + 5 * sum_by (met_of tree rows l.search.distance) (take l.file-index l.risen));
    }

use Rattle.std.proofs.Common.{◌≡◌, ◌≤◌, ◌+◌, ◌*◌, ◌++◌, take, sum_by}
use Rattle.std.specs.List.{flat_map}
use Rattle.near_search.specs.Noting.{noted_at}
use Rattle.near_search.specs.Work.{holders}
use Rattle.near_search.proofs.search.Search.note_near.Given as goal

abbrev pub invariant-loop-word : goal.invariant-loop-word
invariant-loop-word g l =
    let rows = l.self.files.now.rows in
    record {
      noted : l.found ≡ l.initial.found ++ flat_map (λ hit. noted_at l.self.tree.now.rows rows l.self.distance l.self.risen.now l.file hit.0.0) (take l.word-index l.word-items);
      reads : l.steps ≤ l.initial.steps + 5 * sum_by (λ hit. holders rows hit.0.0) (take l.word-index l.word-items);
    }

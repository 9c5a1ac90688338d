use Rattle.std.proofs.Common.{◌≡◌, ◌+◌, map, take, get_or}
use Rattle.sibling_chains.specs.Clustered.{rows_but}
use Rattle.sibling_chains.specs.Recorded.{no_row}
use Rattle.sibling_chains.proofs.clusters.Clusters.rows_of.Given as goal

abbrev pub invariant-loop-number : goal.invariant-loop-number
invariant-loop-number g l = record {
  rows : l.rows.items ≡ map (λ n. get_or (rows_but l.gone l.self.rows) n no_row) (take l.number-index l.numbers);
  steps : l.steps ≡ l.initial.steps + l.number-index;
}

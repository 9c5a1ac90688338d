use Rattle.std.proofs.Common.{ap, ◌∙◌}
use Rattle.library_machine.specs.Asking.{potential_pairs}
use Rattle.library_tables.specs.Tables.{TablesView, records_of}
use Rattle.library_tables.proofs.PotentialPairs.{pairs_are}
use Rattle.library_tables.proofs.tables.Tables.potential_pairs.Goals as goal

pub returns : goal.returns
returns c =
    pairs_are _ c.self.invariant ∙ ap (λ (t : TablesView). potential_pairs (records_of t)) c.self.view_is

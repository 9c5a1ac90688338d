use Rattle.std.proofs.Common.{Decides, subst}
use Rattle.std.specs.List.{Contains}
use Rattle.potential_pairs.specs.Potential.{KeptPairs}
use Rattle.potential_pairs.proofs.PlannedRows.{gone_if_there}
use Rattle.potential_pairs.proofs.pairs.Pairs.is_gone.Goals as goal

pub returns-clause-gone : goal.returns-clause-gone
returns-clause-gone g c =
    let told : Decides c.contains.result (Contains c.args.self.now.rows.gone c.args.file.0) =
    subst (λ (kept : KeptPairs). Decides c.contains.result (Contains kept.rows.gone c.args.file.0)) c.self.view_is c.contains.ensures.there in
    gone_if_there c.args.self.now.rows.gone c.args.file.0 c.contains.result told

use Rattle.std.proofs.Common.{◌∙◌, refl, sym}
use Rattle.std.proofs.lemmas.Bool.{eq-eqb}
use Rattle.sibling_chains.proofs.fold.meet_row.Goals as goal

pub returns-then-row-service-clause-met : goal.returns-then-row-service-clause-met
returns-then-row-service-clause-met c =
    c.meet.ensures.met ∙ sym (rw (c.if-row.true, eq-eqb c.args.row.service.0 c.args.service.0 c.if-row-service.true) refl)

use Rattle.std.proofs.Common.{Err}
use Rattle.media_base.specs.declared.refusal.Refusal.TheVariants as refusals
use Rattle.command_text.proofs.LineLaws.{line_law, unfit_law, no_other_law}
use Rattle.command_text.proofs.laws.refusal_laws.Goals as goal

pub returns-clause-not_json : goal.returns-clause-not_json
returns-clause-not_json c = λ line. line_law line (Err refusals.NotJson)

pub returns-clause-not_a_request : goal.returns-clause-not_a_request
returns-clause-not_a_request c = λ line field. line_law line (Err (refusals.NotARequest field))

pub returns-clause-unfit : goal.returns-clause-unfit
returns-clause-unfit c = unfit_law

pub returns-clause-no_other : goal.returns-clause-no_other
returns-clause-no_other c = no_other_law

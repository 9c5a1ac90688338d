use Rattle.std.proofs.Common.{Err}
use Rattle.media_base.specs.declared.refusal.Refusal.TheVariants as refusals
use Rattle.command_text.proofs.LineLaws.{line_law}
use Rattle.command_text.proofs.laws.long_line_laws.Goals as goal

pub returns : goal.returns
returns c = record { too_long = λ line. line_law line (Err refusals.LineTooLong) }

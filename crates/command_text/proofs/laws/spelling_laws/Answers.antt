use Rattle.std.proofs.Common.{Ok}
use Rattle.command_text.proofs.LineLaws.{line_law}
use Rattle.command_text.proofs.laws.spelling_laws.Goals as goal

pub returns : goal.returns
returns c = λ line command. line_law line (Ok command)

use Rattle.media_tool.proofs.OneCut.{one_cut_of}
use Rattle.media_tool.proofs.laws.one_cut.Goals as goal

pub returns : goal.returns
returns c = one_cut_of

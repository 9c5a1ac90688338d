use Rattle.vp_tree.proofs.Collecting.{points-root}
use Rattle.vp_tree.proofs.laws.root_law.Goals as goal

pub returns : goal.returns
returns c = points-root

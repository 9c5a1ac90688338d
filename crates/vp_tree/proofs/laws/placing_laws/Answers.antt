use Rattle.vp_tree.specs.PlacingLaws.{placed-one_more}
use Rattle.vp_tree.proofs.laws.placing_laws.Goals as goal

pub returns-clause-one_more : goal.returns-clause-one_more
returns-clause-one_more c = placed-one_more

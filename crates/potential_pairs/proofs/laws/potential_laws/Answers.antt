use Rattle.potential_pairs.specs.PotentialLaws.{pairs-are_potential}
use Rattle.potential_pairs.proofs.laws.potential_laws.Goals as goal

pub returns : goal.returns
returns c = record { read = pairs-are_potential }

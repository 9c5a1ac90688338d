use Rattle.tag_types.specs.CleaningLaws.{tag_of-again, tag_of-length}
use Rattle.tag_types.proofs.theorems.cleaning_laws.Goals as goal

pub returns-clause-again : goal.returns-clause-again
returns-clause-again c = tag_of-again

pub returns-clause-some : goal.returns-clause-some
returns-clause-some c = λ text tag is. (tag_of-length text tag is).0

pub returns-clause-few : goal.returns-clause-few
returns-clause-few c = λ text tag is. (tag_of-length text tag is).1

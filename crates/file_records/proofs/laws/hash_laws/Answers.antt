use Rattle.file_records.specs.DistanceLaws.{symmetric}
use Rattle.file_records.specs.HeldLaws.{held, numbered}
use Rattle.file_records.specs.WordLaws.{words_of_more, words_are_distinct}
use Rattle.file_records.proofs.laws.hash_laws.Goals as goal

pub returns-clause-one_more : goal.returns-clause-one_more
returns-clause-one_more c = words_of_more

pub returns-clause-distinct : goal.returns-clause-distinct
returns-clause-distinct c = words_are_distinct

pub returns-clause-symmetric : goal.returns-clause-symmetric
returns-clause-symmetric c = symmetric

pub returns-clause-numbered : goal.returns-clause-numbered
returns-clause-numbered c = numbered

pub returns-clause-held : goal.returns-clause-held
returns-clause-held c = held

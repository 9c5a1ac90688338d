use Rattle.file_records.specs.LookupLaws.{distinct_with, not_found}
use Rattle.file_records.proofs.laws.lookup_laws.Goals as goal

pub returns-clause-not_found : goal.returns-clause-not_found
returns-clause-not_found c = not_found

pub returns-clause-one_more : goal.returns-clause-one_more
returns-clause-one_more c = distinct_with

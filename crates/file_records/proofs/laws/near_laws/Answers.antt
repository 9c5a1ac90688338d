use Rattle.file_records.specs.NearLaws.{below, live_more, near_symmetric, one_more, still_deleted}
use Rattle.file_records.proofs.laws.near_laws.Goals as goal

pub returns-clause-below : goal.returns-clause-below
returns-clause-below c = below

pub returns-clause-one_more : goal.returns-clause-one_more
returns-clause-one_more c = one_more

pub returns-clause-live_more : goal.returns-clause-live_more
returns-clause-live_more c = live_more

pub returns-clause-still_deleted : goal.returns-clause-still_deleted
returns-clause-still_deleted c = still_deleted

pub returns-clause-symmetric : goal.returns-clause-symmetric
returns-clause-symmetric c = near_symmetric

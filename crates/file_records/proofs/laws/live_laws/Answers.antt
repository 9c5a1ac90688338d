use Rattle.file_records.specs.MarkLaws.{back, changes, deleted_after, distinct, each, near, queue, same_length, words}
use Rattle.file_records.proofs.laws.live_laws.Goals as goal

pub returns-clause-each : goal.returns-clause-each
returns-clause-each c = each

pub returns-clause-same_length : goal.returns-clause-same_length
returns-clause-same_length c = same_length

pub returns-clause-distinct : goal.returns-clause-distinct
returns-clause-distinct c = distinct

pub returns-clause-words : goal.returns-clause-words
returns-clause-words c = words

pub returns-clause-near : goal.returns-clause-near
returns-clause-near c = near

pub returns-clause-changes : goal.returns-clause-changes
returns-clause-changes c = changes

pub returns-clause-back : goal.returns-clause-back
returns-clause-back c = back

pub returns-clause-deleted : goal.returns-clause-deleted
returns-clause-deleted c = deleted_after

pub returns-clause-queue : goal.returns-clause-queue
returns-clause-queue c = queue

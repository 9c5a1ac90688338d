use Rattle.file_records.specs.QueueLaws.{queue_ascends, queue_known, queue_leaves, queue_left, queue_one_more, queue_stays}
use Rattle.file_records.specs.SearchLaws.{changes, distinct, each, enough, known, named_in_rising, none, one_more, others, rising_ascends, same_length, words}
use Rattle.file_records.proofs.laws.search_laws.Goals as goal

pub returns-clause-each : goal.returns-clause-each
returns-clause-each c = each

pub returns-clause-one_more : goal.returns-clause-one_more
returns-clause-one_more c = one_more

pub returns-clause-none : goal.returns-clause-none
returns-clause-none c = none

pub returns-clause-enough : goal.returns-clause-enough
returns-clause-enough c = enough

pub returns-clause-changes : goal.returns-clause-changes
returns-clause-changes c = changes

pub returns-clause-known : goal.returns-clause-known
returns-clause-known c = known

pub returns-clause-same_length : goal.returns-clause-same_length
returns-clause-same_length c = same_length

pub returns-clause-distinct : goal.returns-clause-distinct
returns-clause-distinct c = distinct

pub returns-clause-words : goal.returns-clause-words
returns-clause-words c = words

pub returns-clause-others : goal.returns-clause-others
returns-clause-others c = others

pub returns-clause-queue_ascends : goal.returns-clause-queue_ascends
returns-clause-queue_ascends c = queue_ascends

pub returns-clause-queue_known : goal.returns-clause-queue_known
returns-clause-queue_known c = queue_known

pub returns-clause-queue_one_more : goal.returns-clause-queue_one_more
returns-clause-queue_one_more c = queue_one_more

pub returns-clause-queue_stays : goal.returns-clause-queue_stays
returns-clause-queue_stays c = queue_stays

pub returns-clause-queue_leaves : goal.returns-clause-queue_leaves
returns-clause-queue_leaves c = queue_leaves

pub returns-clause-queue_left : goal.returns-clause-queue_left
returns-clause-queue_left c = queue_left

pub returns-clause-rising_ascends : goal.returns-clause-rising_ascends
returns-clause-rising_ascends c = rising_ascends

pub returns-clause-rises : goal.returns-clause-rises
returns-clause-rises c = named_in_rising

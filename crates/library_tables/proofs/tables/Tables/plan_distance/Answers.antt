use Rattle.file_records.specs.QueueLaws.{queue_ascends}
use Rattle.library_tables.proofs.tables.Tables.plan_distance.Goals as goal

pub plan_queue-requires : goal.plan_queue-requires
plan_queue-requires g c = rw c.in_ok-files.ensures.files (queue_ascends c.args.distance c.self.inside.files.rows)

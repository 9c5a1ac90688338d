-- What a planned deletion leads to, or its taking back.
use Rattle.std.specs.Prelude.{◌≡◌, ◌<◌, ◌≤◌, ◌&&◌, length}
use Rattle.file_records.specs.Living.{with_live_mark}
use Rattle.file_records.specs.Searching.{passes, wants_search}
use Rattle.relation_groups.specs.Reading.{relations_in}
use Rattle.library_machine.specs.Records.{Records, Fits}
use Rattle.library_tables.specs.declared.deletion.PlannedLive.{PlannedLive}
use Rattle.library_tables.specs.Pairs.{LeadsPairs}
use Rattle.library_tables.specs.Tables.{TablesView, records_of}

-- It can be made, and then these are the records. It is told whether the file is to be searched then.
pub record LeadsLive (plan : PlannedLive) (t : TablesView) (after : Records) : Type 0 where
  pub known : plan.file.0 < length t.files.rows
  pub told : (plan.live && passes (wants_search t.distance) t.files.rows plan.file.0) ≡ plan.queued
  pub queue_room : 1 ≤ t.work.spare
  pub paired : LeadsPairs plan.pairs (relations_in t.groups) (with_live_mark plan.file.0 plan.live t.files.rows) t.pairs
  pub fits : Fits after
  pub leads : after ≡ record (records_of t) { files = with_live_mark plan.file.0 plan.live t.files.rows }

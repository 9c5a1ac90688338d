-- What a planned change of the distance leads to, and a planned search.
use Rattle.std.specs.Prelude.{◌≡◌, ◌<◌, length, All}
use Rattle.file_records.specs.Searching.{queue_of, searched}
use Rattle.relation_groups.specs.Reading.{relations_in}
use Rattle.library_machine.specs.Records.{Records, Fits}
use Rattle.library_tables.specs.declared.searches.PlannedDistance.{PlannedDistance}
use Rattle.library_tables.specs.declared.searches.PlannedSearch.{PlannedSearch}
use Rattle.library_tables.specs.Pairs.{LeadsPairs}
use Rattle.library_tables.specs.Tables.{TablesView, records_of}

-- the distance can be set, with a queue that is made anew, and then these are the records
pub record LeadsDistance (plan : PlannedDistance) (t : TablesView) (after : Records) : Type 0 where
  pub made : plan.queue ≡ queue_of plan.distance t.files.rows
  pub fits : Fits after
  pub leads : after ≡ record (records_of t) { distance = plan.distance }

-- so can the search be noted
pub record LeadsSearch (plan : PlannedSearch) (t : TablesView) (after : Records) : Type 0 where
  pub known : All (λ file. file.0 < length t.files.rows) plan.files
  pub paired : LeadsPairs plan.pairs (relations_in t.groups) (searched plan.distance plan.files t.files.rows) t.pairs
  pub fits : Fits after
  pub leads : after ≡ record (records_of t) { files = searched plan.distance plan.files t.files.rows }

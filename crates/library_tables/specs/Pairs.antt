-- What a planned change of the pairs leads to.
use Rattle.std.specs.Prelude.{◌≤◌, List}
use Rattle.file_records.specs.declared.file_row.FileRow.{FileRow}
use Rattle.relation_groups.specs.Relations.{Relations}
use Rattle.potential_pairs.specs.Planning.{PlanView, room_of, after}
use Rattle.potential_pairs.specs.Potential.{KeptPairs}
use Rattle.library_tables.specs.Tables.{ArePairsOf}

-- the change can be made, and then the pairs are those of these rows and groups
pub record LeadsPairs (pairs : PlanView) (R : Relations) (rows : List FileRow) (kept : KeptPairs) : Type 0 where
  pub room : room_of pairs ≤ kept.spare
  pub paired : ArePairsOf R rows (after pairs kept.rows)

-- What a planned decision leads to, and a planned undoing.
use Rattle.std.specs.Prelude.{◌≡◌, ◌≢◌, ◌<◌, ◌≤◌, false, [], ◌∷◌, ◌++◌, length, Some, slice_get}
use Rattle.media_types.specs.declared.limits.TheConstants.{MAX_DECISIONS}
use Rattle.decision_book.specs.declared.decision_row.DecisionRow.{DecisionRow}
use Rattle.decision_book.specs.Recorded.{undone_at}
use Rattle.decision_book.specs.Standing.{row_of, standing}
use Rattle.relation_groups.specs.Reading.{IsPlanFor, relations_after}
use Rattle.relation_groups.specs.Relations.{relations}
use Rattle.library_machine.specs.Records.{Records, Fits}
use Rattle.library_tables.specs.declared.decisions.PlannedDecision.{PlannedDecision}
use Rattle.library_tables.specs.declared.decisions.PlannedUndo.{PlannedUndo}
use Rattle.library_tables.specs.Pairs.{LeadsPairs}
use Rattle.library_tables.specs.Tables.{TablesView, records_of}

-- the decision can be made, and then these are the records
pub record LeadsDecide (plan : PlannedDecision) (t : TablesView) (after : Records) : Type 0 where
  pub known : (plan.decision.a.0 < length t.files.rows) × (plan.decision.b.0 < length t.files.rows)
  pub two : plan.decision.a.0 ≢ plan.decision.b.0
  pub few : length t.book.rows < MAX_DECISIONS
  pub room : 1 ≤ t.book.spare
  pub planned : IsPlanFor plan.groups t.groups
  pub related : relations_after plan.groups t.groups ≡ relations (standing (t.book.rows ++ row_of plan.decision ∷ []))
  pub paired : LeadsPairs plan.pairs (relations_after plan.groups t.groups) t.files.rows t.pairs
  pub fits : Fits after
  pub leads : after ≡ record (records_of t) { decisions = t.book.rows ++ row_of plan.decision ∷ [] }

-- so can the undoing
pub record LeadsUndo (plan : PlannedUndo) (t : TablesView) (after : Records) : Type 0 where
  pub known : plan.number.0 < length t.book.rows
  pub stands : (row : DecisionRow) → slice_get t.book.rows plan.number.0 ≡ Some row → row.undone ≡ false
  pub planned : IsPlanFor plan.groups t.groups
  pub related : relations_after plan.groups t.groups ≡ relations (standing (undone_at plan.number.0 t.book.rows))
  pub paired : LeadsPairs plan.pairs (relations_after plan.groups t.groups) t.files.rows t.pairs
  pub fits : Fits after
  pub leads : after ≡ record (records_of t) { decisions = undone_at plan.number.0 t.book.rows }

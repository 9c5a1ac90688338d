use Rattle.std.proofs.Common.{◌≡◌, ◌≤◌, Some, drop}
use Rattle.media_base.specs.Keeping.{Readings}
use Rattle.library_machine.specs.Opening.{opened, opened_from}
use Rattle.library_tables.specs.Tables.{records_of}
use Rattle.library_core.proofs.load.take_all.Given as goal

abbrev pub invariant-loop-number : goal.invariant-loop-number
invariant-loop-number g l = record {
  ready : g.K.Keeper.ready l.keeper;
  place : g.K.Keeper.place l.keeper ≡ Some (l.number, l.count);
  gives : g.K.Keeper.gives l.keeper ≡ g.K.Keeper.gives l.fn.keeper;
  kept : g.K.Keeper.kept l.keeper ≡ g.K.Keeper.kept l.fn.keeper;
  limit : g.K.Keeper.limit l.keeper ≡ g.K.Keeper.limit l.fn.keeper;
  units : g.K.Keeper.units l.keeper ≡ g.K.Keeper.units l.fn.keeper;
  alien : g.K.Keeper.alien l.keeper ≡ g.K.Keeper.alien l.fn.keeper;
  later : g.K.Keeper.faults l.fn.keeper ≤ g.K.Keeper.faults l.keeper;
  so_far : (readings : Readings) → g.K.Keeper.gives l.fn.keeper ≡ Some readings
      → opened_from l.number (records_of l.tables) (drop l.number readings) ≡ opened readings;
}

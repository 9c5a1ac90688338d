use Rattle.std.proofs.Common.{◌≡◌, Some}
use Rattle.media_keeper.proofs.tests.take_all.Given as goal

abbrev pub invariant-loop-number : goal.invariant-loop-number
invariant-loop-number g l = record {
  ready : g.K.Keeper.ready l.keeper;
  place : g.K.Keeper.place l.keeper ≡ Some (l._number, l.told);
}

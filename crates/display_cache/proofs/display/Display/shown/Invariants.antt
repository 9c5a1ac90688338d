use Rattle.std.proofs.Common.{◌≡◌, ◌≤◌, ◌-◌, ◌^◌}
use Rattle.display_cache.specs.Displayed.{cache_of}
use Rattle.display_cache.proofs.ShownLists.{shown_by}
use Rattle.display_cache.proofs.display.Display.shown.Given as goal

abbrev pub invariant-loop-tag : goal.invariant-loop-tag
invariant-loop-tag g l = record {
  list : l.list ≡ shown_by ((cache_of l.fn.self.shown).supports l.fn.s.0 l.fn.f.0) l.from;
  few : l.from ≤ 2 ^ 32;
}

abbrev pub decreases-loop-tag : goal.decreases-loop-tag
decreases-loop-tag g l = 2 ^ 32 - l.from

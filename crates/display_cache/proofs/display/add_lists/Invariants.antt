use Rattle.std.proofs.Common.{◌≡◌, ◌≤◌, ◌+◌, ◌++◌, [], replicate}
use Rattle.tag_types.specs.declared.limits.TheConstants.{MAX_SERVICES}
use Rattle.display_cache.proofs.display.add_lists.Given as goal

abbrev pub invariant-loop : goal.invariant-loop
invariant-loop l = record {
  rows : l.lists.rows ≡ l.initial.lists.rows ++ replicate l.counter [];
  room : MAX_SERVICES ≤ l.lists.spare + l.counter;
}

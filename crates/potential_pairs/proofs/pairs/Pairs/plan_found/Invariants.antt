use Rattle.std.proofs.Common.{◌≡◌, ◌≤◌, ◌+◌, ◌*◌, None, length, take}
use Rattle.relation_groups.specs.Reading.{relations_in}
use Rattle.potential_pairs.specs.Naming.{AreCounted, live_name}
use Rattle.potential_pairs.specs.Planning.{after, with_found}
use Rattle.potential_pairs.proofs.pairs.Pairs.plan_found.Given as goal

abbrev pub invariant-loop-f : goal.invariant-loop-f
invariant-loop-f g l = record {
  counted : AreCounted (live_name (relations_in l.groups) l.fn.self.rows.gone) (after l.plan l.fn.self.rows);
  near : (after l.plan l.fn.self.rows).near ≡ with_found (take l.f-index l.found) l.fn.self.rows.near;
  more : length (after l.plan l.fn.self.rows).near ≡ length l.fn.self.rows.near + length l.plan.near;
  live : l.plan.live ≡ None;
  reads : l.steps ≤ l.initial.steps + 8 * l.f-index;
}

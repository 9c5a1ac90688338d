use Rattle.std.proofs.Common.{◌≡◌, ◌≤◌, ◌+◌, ◌*◌, ℕ, [], None, length, drop}
use Rattle.relation_groups.specs.Reading.{relations_after, relations_in}
use Rattle.potential_pairs.specs.Naming.{count_named, live_name}
use Rattle.potential_pairs.specs.Planning.{planned_count, touched}
use Rattle.potential_pairs.proofs.Renaming.{waiting}
use Rattle.potential_pairs.proofs.pairs.Pairs.plan_moved.Given as goal

abbrev pub invariant-loop-f : goal.invariant-loop-f
invariant-loop-f g l = record {
  counts : (name : ℕ × ℕ) (d : ℕ) → planned_count l.plan l.fn.self.rows name d
      ≡ count_named (waiting (drop l.f-index (touched l.moved.moves l.fn.self.rows.near))
      (live_name (relations_in l.groups) l.fn.self.rows.gone) (live_name (relations_after l.moved l.groups) l.fn.self.rows.gone)) l.fn.self.rows.near name d;
  near : l.plan.near ≡ [];
  live : l.plan.live ≡ None;
  reads : l.steps ≤ l.fn.steps + (4 * (length l.moved.moves + length (touched l.moved.moves l.fn.self.rows.near)) + 8 * l.f-index);
}

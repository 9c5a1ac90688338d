use Rattle.std.proofs.Common.{◌≡◌, ◌≤◌, ◌+◌, ◌*◌, ℕ, Some, drop, filter, length}
use Rattle.relation_groups.specs.Reading.{relations_in}
use Rattle.potential_pairs.specs.Naming.{count_named, live_name}
use Rattle.potential_pairs.specs.Planning.{has_file, planned_count, with_live}
use Rattle.potential_pairs.proofs.Renaming.{waiting}
use Rattle.potential_pairs.proofs.pairs.Pairs.plan_live_pairs.Given as goal

abbrev pub invariant-loop-f : goal.invariant-loop-f
invariant-loop-f g l = record {
  counts : (name : ℕ × ℕ) (d : ℕ) → planned_count l.plan l.fn.self.rows name d
      ≡ count_named (waiting (drop l.f-index (filter (λ row. has_file l.fn.file.0 row.0) l.fn.self.rows.near))
      (live_name (relations_in l.groups) l.fn.self.rows.gone) (live_name (relations_in l.groups) (with_live (Some (l.fn.file, l.fn.live)) l.fn.self.rows.gone))) l.fn.self.rows.near name d;
  near : l.plan.near ≡ l.fn.plan.near;
  reads : l.steps ≤ l.fn.steps + (5 + 2 * length (filter (λ row. has_file l.fn.file.0 row.0) l.fn.self.rows.near) + 3 * l.f-index);
}

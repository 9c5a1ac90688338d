use Rattle.std.proofs.Common.{◌≡◌, ◌↔◌, ◌<◌, ◌+◌, ◌^◌, ℕ, get_or, length, ap, arith}
use Rattle.std.specs.List.{Contains}
use Rattle.spare_tables.specs.Keys.{value_of}
use Rattle.spare_tables.specs.Order.{pair_cmp}
use Rattle.potential_pairs.specs.Levels.{IsLevelOf, one_at}
use Rattle.potential_pairs.specs.Planning.{with_value}
use Rattle.potential_pairs.proofs.InStep.{old-shallow, old-counted, new-counted, in_step-set}
use Rattle.potential_pairs.proofs.distance_map.DistanceMap.set.Goals as goal

pub leave_level-requires-clause-shallow : goal.leave_level-requires-clause-shallow
leave_level-requires-clause-shallow c =
    let map = c.self.inside in
    old-shallow map.distances.rows map.levels.rows map.counts c.args.name _ c.self.invariant c.set_distance-old.ensures.old

pub leave_level-requires-clause-counted : goal.leave_level-requires-clause-counted
leave_level-requires-clause-counted c =
    let map = c.self.inside in
    old-counted map.distances.rows map.levels.rows map.counts c.args.name _ c.self.invariant c.set_distance-old.ensures.old

pub enter_level-requires-clause-counted : goal.enter_level-requires-clause-counted
enter_level-requires-clause-counted c =
    let map = c.self.inside in
    let took : (e : ℕ) → get_or c.leave_level.new.counts e 0 + one_at e (value_of pair_cmp map.distances.rows c.args.name) ≡ get_or map.counts e 0 = rw c.set_distance-old.ensures.old at c.leave_level.ensures.counts in
    let fits : length (with_value map.distances.rows c.args.name c.args.distance) < 2 ^ 64 = omega (arith, c.len-pairs.ensures.rows, ap length c.set_distance-old.ensures.rows, c.len-pairs.type_inv) in
    new-counted map.distances.rows map.levels.rows map.counts c.leave_level.new.counts c.args.name c.args.distance c.self.invariant c.requires.shallow fits took

pub invariant_of-self : goal.invariant_of-self
invariant_of-self c =
    let map = c.self.inside in
    let took : (e : ℕ) → get_or c.leave_level.new.counts e 0 + one_at e (value_of pair_cmp map.distances.rows c.args.name) ≡ get_or map.counts e 0 = rw c.set_distance-old.ensures.old at c.leave_level.ensures.counts in
    let leaves : (t : ℕ × ℕ × ℕ) → Contains c.leave_level.new.levels.rows t ↔ (Contains map.levels.rows t × ¬ (IsLevelOf c.args.name (value_of pair_cmp map.distances.rows c.args.name) t)) = rw c.set_distance-old.ensures.old at c.leave_level.ensures.levels in
    rw c.set_distance-old.ensures.rows
    (in_step-set map.distances.rows map.levels.rows c.leave_level.new.levels.rows c.enter_level.new.levels.rows map.counts c.leave_level.new.counts c.enter_level.new.counts c.args.name c.args.distance c.self.invariant
    leaves c.enter_level.ensures.levels c.requires.named c.requires.shallow took c.enter_level.ensures.counts)

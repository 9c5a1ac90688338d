use Rattle.std.proofs.Common.{◌≡◌, ◌∙◌, ◌+◌, nat_lt, count_by, min, length, ap, sym, arith}
use Rattle.std.specs.Map.{values_of}
use Rattle.std.proofs.lemmas.List.Sums.{count_by-le-length}
use Rattle.std.proofs.lemmas.Map.Entries.{length-values_of}
use Rattle.media_types.specs.declared.limits.TheConstants.{MAX_DISTANCE}
use Rattle.spare_tables.specs.Table.{Table}
use Rattle.potential_pairs.specs.Pages.{within}
use Rattle.potential_pairs.specs.Potential.{Row}
use Rattle.potential_pairs.proofs.Counting.{count-none, count-more, count-within, length-within}
use Rattle.potential_pairs.proofs.distance_map.DistanceMap.count.Goals as goal

pub overflow_add-pairs : goal.overflow_add-pairs
overflow_add-pairs c =
    let vs = values_of c.self.inside.distances.rows in
    let d = c.loop-distance.distance in
    let here = c.self.invariant.count d (omega (arith, c.loop-distance-test.true, c.levels_within-distance-end.ensures)) in
    omega (arith, here, c.loop-distance.invariant, count-more vs d, count_by-le-length (λ v. nat_lt v (d + 1)) vs, length-values_of c.self.inside.distances.rows, c.len-pairs.ensures.rows, c.len-pairs.type_inv)

pub loop-distance-init : goal.loop-distance-init
loop-distance-init c = sym (count-none (values_of c.self.inside.distances.rows))

pub loop-distance-preserved : goal.loop-distance-preserved
loop-distance-preserved c =
    let vs = values_of c.self.inside.distances.rows in
    let d = c.loop-distance.distance in
    let here = c.self.invariant.count d (omega (arith, c.loop-distance-test.true, c.levels_within-distance-end.ensures)) in
    omega (arith, here, c.loop-distance.invariant, count-more vs d)

pub returns : goal.returns
returns c =
    let rows = c.self.inside.distances.rows in
    let vs = values_of rows in
    let m = c.args.at_most in
    let last : c.loop-distance.distance ≡ min m MAX_DISTANCE + 1 = omega (arith, c.loop-distance-test.false, c.loop-distance.auto.distance-end, c.levels_within-distance-end.ensures) in
    c.loop-distance.invariant ∙ ap (λ d. count_by (λ v. nat_lt v d) vs) last ∙ count-within vs m c.self.invariant.shallow ∙ sym (length-within m rows)
    ∙ ap (λ (table : Table Row). length (within m table.rows)) c.self.view_is

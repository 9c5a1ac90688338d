use Rattle.std.proofs.Common.{Some, None, subst}
use Rattle.spare_tables.specs.Keys.{IsLeastFrom}
use Rattle.spare_tables.specs.Order.{triple_cmp}
use Rattle.spare_tables.specs.Table.{Table}
use Rattle.potential_pairs.specs.Levels.{IsFirstBehind}
use Rattle.potential_pairs.specs.Potential.{Row}
use Rattle.potential_pairs.proofs.OfLevels.{first_found, none_of_level, none_at_all}
use Rattle.potential_pairs.proofs.distance_map.DistanceMap.first_behind.Goals as goal

pub returns-in-Some-clause-first : goal.returns-in-Some-clause-first
returns-in-Some-clause-first g c =
    let map = c.self.inside in
    let d = c.args.distance in
    let start = c.start_behind-j.result in
    let least : IsLeastFrom triple_cmp map.levels.rows (d, start.0, start.1) (Some (d, c.in-Some.j, c.in-Some.k)) = rw (c.in-Some.is, c.if-found-distance.true, c.from-distance.ensures) at c.range_from.ensures.least in
    let first = first_found map.distances.rows map.levels.rows map.counts c.self.invariant d c.args.place start c.start_behind-j.ensures.before c.start_behind-j.ensures.behind (c.in-Some.j, c.in-Some.k) least in
    subst (λ (table : Table Row). IsFirstBehind table.rows d c.args.place (Some (c.in-Some.j, c.in-Some.k))) c.self.view_is first

pub returns-in_default-clause-first : goal.returns-in_default-clause-first
returns-in_default-clause-first g c =
    let map = c.self.inside in
    let d = c.args.distance in
    let start = c.start_behind-j.result in
    let least : IsLeastFrom triple_cmp map.levels.rows (d, start.0, start.1) (Some (c.in-Some.found, c.in-Some.j, c.in-Some.k)) = rw (c.in-Some.is, c.from-distance.ensures) at c.range_from.ensures.least in
    let none = none_of_level map.distances.rows map.levels.rows map.counts c.self.invariant d c.args.place start c.start_behind-j.ensures.before c.start_behind-j.ensures.behind (c.in-Some.found, c.in-Some.j, c.in-Some.k) (rw c.from-distance.ensures at c.if-found-distance.false) least in
    subst (λ (table : Table Row). IsFirstBehind table.rows d c.args.place None) c.self.view_is none

pub returns-in_default-2-clause-first : goal.returns-in_default-2-clause-first
returns-in_default-2-clause-first g c =
    let map = c.self.inside in
    let d = c.args.distance in
    let start = c.start_behind-j.result in
    let least : IsLeastFrom triple_cmp map.levels.rows (d, start.0, start.1) None = rw (c.in_default.is, c.from-distance.ensures) at c.range_from.ensures.least in
    let none = none_at_all map.distances.rows map.levels.rows map.counts c.self.invariant d c.args.place start c.start_behind-j.ensures.before c.start_behind-j.ensures.behind least in
    subst (λ (table : Table Row). IsFirstBehind table.rows d c.args.place None) c.self.view_is none

use Rattle.std.proofs.Common.{◌≡◌, ◌∙◌, ◌-◌, ℕ, Some, get_or, sym, ap}
use Rattle.potential_pairs.specs.Levels.{one_at}
use Rattle.potential_pairs.specs.Naming.{weight}
use Rattle.potential_pairs.specs.Planning.{planned_count}
use Rattle.potential_pairs.proofs.Clauses.{on_ok}
use Rattle.potential_pairs.proofs.PlannedRows.{planned_count-less}
use Rattle.potential_pairs.proofs.pairs.Pairs.plan_less.Goals as goal

pub returns-clause-tallies : goal.returns-clause-tallies
returns-clause-tallies g c =
    let rows = c.args.self.now.rows in
    let plan = c.args.plan.now in
    let name = c.in-Some.name in
    let tally = c.but_one-tally.result in
    let counts : (d : ℕ) → get_or tally.counts d 0 ≡ planned_count plan rows name d - one_at d (Some c.args.distance) =
    λ d. c.but_one-tally.ensures d ∙ ap (λ n. n - one_at d (Some c.args.distance)) (c.planned_tally.ensures.counts d) in
    on_ok c.set_tally.result (λ set q d.
    planned_count-less plan c.set_tally.new.self rows name tally c.set_tally.ensures.sorted c.in_order.ensures.kept.sorted set c.args.distance counts q d
    ∙ ap (λ own. planned_count plan rows q d - weight own c.args.distance q d) (sym c.in-Some.is)) c.set_tally.ensures.tallies

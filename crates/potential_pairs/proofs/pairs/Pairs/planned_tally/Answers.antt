use Rattle.std.proofs.Common.{◌∙◌, sym, ap}
use Rattle.potential_pairs.specs.Tallies.{count_at}
use Rattle.potential_pairs.specs.Potential.{KeptPairs}
use Rattle.spare_tables.specs.Keys.{value_of}
use Rattle.spare_tables.specs.Order.{pair_cmp}
use Rattle.potential_pairs.proofs.PlannedRows.{planned_by, planned_count-is}
use Rattle.potential_pairs.proofs.pairs.Pairs.planned_tally.Goals as goal

pub returns-in-Some-clause-counts : goal.returns-in-Some-clause-counts
returns-in-Some-clause-counts g c = λ d.
    let rows = c.args.self.now.rows in
    sym (planned_count-is c.args.plan.now rows c.args.name d c.tally_of.ensures.sorted c.in_order.ensures.kept.sorted
    ∙ ap (λ found. planned_by found (count_at (value_of pair_cmp rows.tallies c.args.name) d) d) (sym c.tally_of.ensures.value ∙ c.in-Some.is))

pub returns-in-Some-tally_of-clause-counts : goal.returns-in-Some-tally_of-clause-counts
returns-in-Some-tally_of-clause-counts g c = λ d.
    let rows = c.args.self.now.rows in
    let kept = ap (λ (k : KeptPairs). value_of pair_cmp k.rows.tallies c.args.name) c.self.view_is in
    sym (planned_count-is c.args.plan.now rows c.args.name d c.tally_of.ensures.sorted c.in_order.ensures.kept.sorted
    ∙ ap (λ found. planned_by found (count_at (value_of pair_cmp rows.tallies c.args.name) d) d) (sym c.tally_of.ensures.value ∙ c.in-None.is)
    ∙ ap (λ found. count_at found d) (sym kept ∙ sym c.tally_of-in-None.ensures.value ∙ c.in-Some-tally_of.is))

pub returns-in-None-tally_of-clause-counts : goal.returns-in-None-tally_of-clause-counts
returns-in-None-tally_of-clause-counts g c = λ d.
    let rows = c.args.self.now.rows in
    let kept = ap (λ (k : KeptPairs). value_of pair_cmp k.rows.tallies c.args.name) c.self.view_is in
    c.new.ensures d ∙ sym (planned_count-is c.args.plan.now rows c.args.name d c.tally_of.ensures.sorted c.in_order.ensures.kept.sorted
    ∙ ap (λ found. planned_by found (count_at (value_of pair_cmp rows.tallies c.args.name) d) d) (sym c.tally_of.ensures.value ∙ c.in-None.is)
    ∙ ap (λ found. count_at found d) (sym kept ∙ sym c.tally_of-in-None.ensures.value ∙ c.in-None-tally_of.is))

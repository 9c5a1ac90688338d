use Rattle.potential_pairs.proofs.TallyRows.{with-tally}
use Rattle.potential_pairs.proofs.tally_map.TallyMap.set.Goals as goal

pub invariant_of-self : goal.invariant_of-self
invariant_of-self c = rw (c.set_tally.ensures.rows, c.set.ensures.rows, c.if_any.ensures, c.least.ensures.least)
    (with-tally c.self.inside.tallies.rows c.self.inside.distances.rows c.args.name c.args.tally c.self.invariant)

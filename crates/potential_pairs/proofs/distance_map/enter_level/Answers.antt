use Rattle.potential_pairs.proofs.distance_map.enter_level.Goals as goal

pub returns-in-Some-clause-levels : goal.returns-in-Some-clause-levels
returns-in-Some-clause-levels c = rw c.in-Some.is (λ level. rw c.from.ensures at c.insert.ensures.members level)

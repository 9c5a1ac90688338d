use Rattle.tree_upkeep.proofs.tests.a_planned_queue_is_put_in_place.Given as goal

abbrev pub ghosts-plans : goal.ghosts-plans
ghosts-plans g a = record { name = a.blank.name; parts = a.blank.parts }

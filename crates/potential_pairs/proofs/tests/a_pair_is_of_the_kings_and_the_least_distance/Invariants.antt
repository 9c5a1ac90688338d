use Rattle.potential_pairs.proofs.tests.a_pair_is_of_the_kings_and_the_least_distance.Given as goal

abbrev pub ghosts-assert_case : goal.ghosts-assert_case
ghosts-assert_case g a = record { name = a.blank.name; parts = a.blank.parts }

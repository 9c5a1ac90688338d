use Rattle.relation_groups.proofs.tests.pairs_reach_alternates.Given as goal

abbrev pub ghosts-assert_row : goal.ghosts-assert_row
ghosts-assert_row g a = record { name = a.blank.name; parts = a.blank.parts }

use Rattle.parent_closure.proofs.tests.cases.services_take_each_others_pairs.Given as goal

abbrev pub ghosts-assert_row : goal.ghosts-assert_row
ghosts-assert_row g a = record { name = a.blank.name; parts = a.blank.parts }

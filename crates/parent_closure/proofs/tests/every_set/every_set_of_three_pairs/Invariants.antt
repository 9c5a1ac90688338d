use Rattle.parent_closure.proofs.tests.every_set.every_set_of_three_pairs.Given as goal

abbrev pub ghosts-assert_all : goal.ghosts-assert_all
ghosts-assert_all g a = record { name = a.blank.name; parts = a.blank.parts }

use Rattle.vp_tree.proofs.tests.words_are_placed_and_built.Given as goal

abbrev pub ghosts-assert_cases : goal.ghosts-assert_cases
ghosts-assert_cases g a = record { name = a.blank.name; parts = a.blank.parts }

use Rattle.sibling_chains.proofs.tests.pairs_make_ideal_tags.Given as goal

abbrev pub ghosts-assert_row : goal.ghosts-assert_row
ghosts-assert_row g a = record { name = a.blank.name; parts = a.blank.parts }

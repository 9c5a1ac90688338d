use Rattle.relation_groups.proofs.tests.a_file_that_was_no_king_leaves_its_group.Given as goal

abbrev pub ghosts-assert_row : goal.ghosts-assert_row
ghosts-assert_row g a = record { name = a.blank.name; parts = a.blank.parts }

use Rattle.potential_pairs.proofs.tests.alternates_and_unrelated_files_are_no_pair.Given as goal

abbrev pub ghosts-assert_case : goal.ghosts-assert_case
ghosts-assert_case g a = record { name = a.blank.name; parts = a.blank.parts }

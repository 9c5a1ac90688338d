use Rattle.potential_pairs.proofs.tests.pairs_of_three_files.Given as goal

abbrev pub ghosts-three_files : goal.ghosts-three_files
ghosts-three_files g a = record { name = a.blank.name; parts = a.blank.parts }

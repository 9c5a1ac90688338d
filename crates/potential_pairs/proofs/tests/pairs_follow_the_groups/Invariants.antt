use Rattle.potential_pairs.proofs.tests.pairs_follow_the_groups.Given as goal

abbrev pub ghosts-four_files : goal.ghosts-four_files
ghosts-four_files g a = record { name = a.blank.name; parts = a.blank.parts }

use Rattle.tree_upkeep.proofs.tests.the_lowest_mark_is_rebuilt.Given as goal

abbrev pub ghosts-marks : goal.ghosts-marks
ghosts-marks g a = record { name = a.blank.name; parts = a.blank.parts }

use Rattle.tree_upkeep.proofs.tests.five_files_are_noted_in_a_mixed_order.Given as goal

abbrev pub ghosts-five_files : goal.ghosts-five_files
ghosts-five_files g a = record { name = a.blank.name; parts = a.blank.parts }

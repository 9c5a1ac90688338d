use Rattle.vp_tree.proofs.tests.four_words_of_a_file.Given as goal

abbrev pub ghosts-four_words_in : goal.ghosts-four_words_in
ghosts-four_words_in g a = record { name = a.blank.name; parts = a.blank.parts }

use Rattle.vp_tree.proofs.tests.many_words_as_the_scan.Given as goal

abbrev pub ghosts-many_words_in : goal.ghosts-many_words_in
ghosts-many_words_in g a = record { name = a.blank.name; parts = a.blank.parts }

use Rattle.vp_tree.proofs.tests.unlucky_words_ask_for_a_branch.Given as goal

abbrev pub ghosts-unlucky_words_in : goal.ghosts-unlucky_words_in
ghosts-unlucky_words_in g a = record { name = a.blank.name; parts = a.blank.parts }

use Rattle.sibling_chains.proofs.tests.every_order_of_five_pairs.Given as goal

abbrev pub ghosts-assert_pairs : goal.ghosts-assert_pairs
ghosts-assert_pairs g a = record { name = a.blank.name; parts = a.blank.parts }

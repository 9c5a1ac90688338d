use Rattle.sibling_chains.proofs.tests.a_chain_of_a_thousand.Given as goal

abbrev pub ghosts-assert_chain : goal.ghosts-assert_chain
ghosts-assert_chain g a = record { name = a.blank.name; parts = a.blank.parts }

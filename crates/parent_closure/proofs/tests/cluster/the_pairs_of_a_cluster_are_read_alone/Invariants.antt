use Rattle.parent_closure.proofs.tests.cluster.the_pairs_of_a_cluster_are_read_alone.Given as goal

abbrev pub ghosts-assert_session : goal.ghosts-assert_session
ghosts-assert_session g a = record { name = a.blank.name; parts = a.blank.parts }

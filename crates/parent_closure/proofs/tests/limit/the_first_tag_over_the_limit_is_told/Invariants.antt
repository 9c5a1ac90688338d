use Rattle.parent_closure.proofs.tests.limit.the_first_tag_over_the_limit_is_told.Given as goal

abbrev pub ghosts-assert_session : goal.ghosts-assert_session
ghosts-assert_session g a = record { name = a.blank.name; parts = a.blank.parts }

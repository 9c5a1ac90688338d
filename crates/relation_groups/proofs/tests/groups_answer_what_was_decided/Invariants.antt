use Rattle.relation_groups.proofs.tests.groups_answer_what_was_decided.Given as goal

abbrev pub ghosts-assert_groups : goal.ghosts-assert_groups
ghosts-assert_groups g a = record { name = a.blank.name; parts = a.blank.parts }

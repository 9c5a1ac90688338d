use Rattle.parent_closure.proofs.tests.plans.plans_tell_what_commits_make.Given as goal

abbrev pub ghosts-assert_row : goal.ghosts-assert_row
ghosts-assert_row g a = record { name = a.blank.name; parts = a.blank.parts }

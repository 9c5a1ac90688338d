use Rattle.near_search.proofs.tests.searches_find_what_they_make_near.Given as goal

abbrev pub ghosts-assert_cases : goal.ghosts-assert_cases
ghosts-assert_cases g a = record { name = a.blank.name; parts = a.blank.parts }

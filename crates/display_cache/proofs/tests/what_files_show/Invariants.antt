use Rattle.display_cache.proofs.tests.what_files_show.Given as goal

abbrev pub ghosts-session : goal.ghosts-session
ghosts-session g a = record { name = a.blank.name; parts = a.blank.parts }

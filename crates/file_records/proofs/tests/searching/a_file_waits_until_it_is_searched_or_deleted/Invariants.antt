use Rattle.file_records.proofs.tests.searching.a_file_waits_until_it_is_searched_or_deleted.Given as goal

abbrev pub ghosts-search_six_files : goal.ghosts-search_six_files
ghosts-search_six_files g a = record { name = a.blank.name; parts = a.blank.parts }

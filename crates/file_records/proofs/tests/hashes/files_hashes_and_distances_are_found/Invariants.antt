use Rattle.file_records.proofs.tests.hashes.files_hashes_and_distances_are_found.Given as goal

abbrev pub ghosts-find_all : goal.ghosts-find_all
ghosts-find_all g a = record { name = a.blank.name; parts = a.blank.parts }

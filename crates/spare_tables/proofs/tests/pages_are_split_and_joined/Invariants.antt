use Rattle.spare_tables.proofs.tests.pages_are_split_and_joined.Given as goal

abbrev pub ghosts-many_rows : goal.ghosts-many_rows
ghosts-many_rows g a = record { name = a.blank.name; parts = a.blank.parts }

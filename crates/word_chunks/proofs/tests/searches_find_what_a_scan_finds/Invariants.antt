use Rattle.word_chunks.proofs.tests.searches_find_what_a_scan_finds.Given as goal

abbrev pub ghosts-assert_kinds : goal.ghosts-assert_kinds
ghosts-assert_kinds g a = record { name = a.blank.name; parts = a.blank.parts }

use Rattle.tag_store.proofs.mapping_tests.the_tags_of_a_file_lie_in_several_pages.Given as goal

abbrev pub ghosts-pages : goal.ghosts-pages
ghosts-pages g a = record { name = a.blank.name; parts = a.blank.parts }

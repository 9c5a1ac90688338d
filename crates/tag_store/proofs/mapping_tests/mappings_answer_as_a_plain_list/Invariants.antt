use Rattle.tag_store.proofs.mapping_tests.mappings_answer_as_a_plain_list.Given as goal

abbrev pub ghosts-changes : goal.ghosts-changes
ghosts-changes g a = record { name = a.blank.name; parts = a.blank.parts }

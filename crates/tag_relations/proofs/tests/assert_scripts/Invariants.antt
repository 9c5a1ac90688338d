use Rattle.tag_relations.proofs.tests.assert_scripts.Given as goal

abbrev pub ghosts-assert_script : goal.ghosts-assert_script
ghosts-assert_script g a = record { name = a.blank.name; parts = a.blank.parts }

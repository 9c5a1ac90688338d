use Rattle.parent_closure.proofs.tests.rows.rows_stay_in_order_of_recording.Given as goal

abbrev pub ghosts-assert_all : goal.ghosts-assert_all
ghosts-assert_all g a = record { name = a.blank.name; parts = a.blank.parts }

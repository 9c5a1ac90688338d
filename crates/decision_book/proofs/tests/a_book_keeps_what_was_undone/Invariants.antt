use Rattle.decision_book.proofs.tests.a_book_keeps_what_was_undone.Given as goal

abbrev pub ghosts-assert_book : goal.ghosts-assert_book
ghosts-assert_book g a = record { name = a.blank.name; parts = a.blank.parts }

use Rattle.session_tests.proofs.rows.goes_with.Given as goal

abbrev pub ghosts-run : goal.ghosts-run
ghosts-run g a = record { table = a.book.table }

use Rattle.loop_tests.proofs.client_runs.end_beside.Given as goal

-- the book whose berths were given
abbrev pub ghosts-run_beside : goal.ghosts-run_beside
ghosts-run_beside g a = record { table = a.book.table }

use Rattle.run_tests.proofs.switched_actors.run_switched.Given as goal

-- the book whose berths are given
abbrev pub ghosts-named : goal.ghosts-named
ghosts-named g a = record { table = a.book.table }

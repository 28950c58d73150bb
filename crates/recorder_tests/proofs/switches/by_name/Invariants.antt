use Rattle.recorder_tests.proofs.switches.by_name.Given as goal

-- the book whose berths were given
abbrev pub ghosts-whole : goal.ghosts-whole
ghosts-whole g a = record { table = a.book.table }

use Rattle.node_threads.proofs.runs.opened.Given as goal

-- the book whose berths the tasks have
abbrev pub ghosts-named : goal.ghosts-named
ghosts-named g a = record { table = a.book.table }

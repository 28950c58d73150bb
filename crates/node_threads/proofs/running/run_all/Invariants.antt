use Rattle.node_threads.proofs.running.run_all.Given as goal

-- the world that the book was opened with
abbrev pub ghosts-opened : goal.ghosts-opened
ghosts-opened g a = record { world = a.book.book.opening }

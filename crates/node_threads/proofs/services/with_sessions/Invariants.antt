use Rattle.node_threads.proofs.services.with_sessions.Given as goal

-- the world that the book was opened with
abbrev pub ghosts-opened_service : goal.ghosts-opened_service
ghosts-opened_service g a = record { world = a.book.book.opening }

use Rattle.node_threads.proofs.services.opened_service.Given as goal

-- the book whose berths the tasks have
abbrev pub ghosts-named_service : goal.ghosts-named_service
ghosts-named_service g a = record { table = a.book.table }

use Rattle.history_book.proofs.books.Book.over.Given as goal

abbrev pub ghosts-opened : goal.ghosts-opened
ghosts-opened g a = record { world = a.world }

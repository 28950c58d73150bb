use Rattle.std.proofs.Common.{rules}
use Rattle.history_book.proofs.books.Book.meet.Goals as goal

pub returns-clause-ok : goal.returns-clause-ok
returns-clause-ok g c = record {
  one = search rules;
  other = search rules;
  met = search rules;
  told = search rules;
  tickets = search rules;
  one_sees = search rules;
  other_sees = search rules;
}

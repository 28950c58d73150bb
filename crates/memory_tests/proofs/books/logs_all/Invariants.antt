use Rattle.std.proofs.Common.{◌≡◌}
use Rattle.memory_tests.proofs.books.logs_all.Given as goal

abbrev pub invariant-loop-line : goal.invariant-loop-line
invariant-loop-line g l = record {
  book : (l.book.number ≡ l.fn.book.number) × (l.book.table ≡ l.fn.book.table);
  berth : l.berth.table ≡ l.fn.berth.table;
}

use Rattle.std.proofs.Common.{◌≡◌}
use Rattle.book_tests.proofs.logging.asks.Given as goal

abbrev pub invariant-loop : goal.invariant-loop
invariant-loop g l = record {
  book : (l.book.number ≡ l.fn.book.number) × (l.book.table ≡ l.fn.book.table);
  berth : (l.berth.number ≡ l.fn.berth.number) × (l.berth.table ≡ l.fn.berth.table);
}

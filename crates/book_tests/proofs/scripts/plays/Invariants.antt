use Rattle.std.proofs.Common.{◌≡◌}
use Rattle.book_tests.proofs.scripts.plays.Given as goal

abbrev pub invariant-loop-row : goal.invariant-loop-row
invariant-loop-row g l = record {
  first : l.first.number ≡ l.book.number → l.first.table ≡ l.book.table;
  second : l.second.number ≡ l.book.number → l.second.table ≡ l.book.table;
  third : l.third.number ≡ l.book.number → l.third.table ≡ l.book.table;
}

use Rattle.std.proofs.Common.{◌≡◌}
use Rattle.std.specs.List.{All}
use Rattle.book_tests.specs.Ties.{IsOf}
use Rattle.book_tests.proofs.random_events.berths_of.Given as goal

abbrev pub invariant-loop-place : goal.invariant-loop-place
invariant-loop-place g l = record {
  book : (l.book.number ≡ l.fn.book.number) × (l.book.table ≡ l.fn.book.table);
  berths : All (IsOf l.book) l.berths.items;
}

use Rattle.std.specs.List.{All}
use Rattle.book_tests.specs.Ties.{IsOf}
use Rattle.book_tests.proofs.random_events.run.Given as goal

abbrev pub invariant-loop-turn : goal.invariant-loop-turn
invariant-loop-turn g l = All (IsOf l.book) l.berths.items

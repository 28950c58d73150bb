use Rattle.std.proofs.Common.{◌≡◌}
use Rattle.lock_model.specs.declared.problems.Problem.TheVariants.{First}
use Rattle.book_support.specs.Fresh.{IsNewBook}
use Rattle.run_tests.proofs.switched_actors.client_tasks.Given as goal

abbrev pub invariant-loop-place : goal.invariant-loop-place
invariant-loop-place g l = record {
  new : IsNewBook l.ballots First l.clients l.book;
  table : l.book.table ≡ l.fn.book.table;
}

use Rattle.std.proofs.Common.{◌≡◌, All}
use Rattle.client_loop.specs.Visits.{ArePlaced}
use Rattle.loop_tests.specs.Fresh.{two_nodes}
use Rattle.loop_tests.proofs.clients.wishes.Given as goal

abbrev pub invariant-loop-text : goal.invariant-loop-text
invariant-loop-text l = record {
  own : All (λ wish. wish.client ≡ 1) l.wishes.items;
  placed : ArePlaced two_nodes l.wishes.items;
}

use Rattle.std.proofs.Common.{◌≡◌, All}
use Rattle.client_loop.specs.Visits.{ArePlaced}
use Rattle.run_tests.proofs.switched_actors.own_wishes.Given as goal

abbrev pub invariant-loop-round : goal.invariant-loop-round
invariant-loop-round l = record {
  own : All (λ wish. wish.client ≡ l.client) l.wishes.items;
  placed : ArePlaced l.ballots l.wishes.items;
}

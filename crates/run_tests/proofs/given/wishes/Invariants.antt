use Rattle.std.proofs.Common.{◌≤◌, All}
use Rattle.lock_model.specs.Ballots.{HasPlace}
use Rattle.run_tests.proofs.given.wishes.Given as goal

abbrev pub invariant-loop-text : goal.invariant-loop-text
invariant-loop-text l = record {
  theirs : All (λ wish. wish.client ≤ l.clients) l.wishes.items;
  placed : All (λ wish. HasPlace l.ballots wish.place) l.wishes.items;
}

use Rattle.std.proofs.Common.{◌≡◌}
use Rattle.rollout.proofs.crews.go_round.Given as goal

-- the session is the same client's, with the same ballots
abbrev pub invariant-loop : goal.invariant-loop
invariant-loop g l = record {
  can : (goal.iterator-loop g).can_next l.iterator';
  finite : (goal.iterator-loop g).is_finite l.iterator';
  ballots : l.session.ballots ≡ l.fn.session.ballots;
  client : l.session.client ≡ l.fn.session.client;
}

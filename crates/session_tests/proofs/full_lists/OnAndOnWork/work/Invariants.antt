use Rattle.std.proofs.Common.{◌≡◌}
use Rattle.session_tests.proofs.full_lists.OnAndOnWork.work.Given as goal

abbrev pub invariant-loop : goal.invariant-loop
invariant-loop g l = (l.session.client ≡ l.fn.session.client) × (l.session.ballots ≡ l.fn.session.ballots)

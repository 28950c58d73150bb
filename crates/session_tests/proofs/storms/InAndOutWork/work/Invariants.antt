use Rattle.std.proofs.Common.{◌≡◌}
use Rattle.session_tests.proofs.storms.InAndOutWork.work.Given as goal

abbrev pub invariant-loop-visit : goal.invariant-loop-visit
invariant-loop-visit g l = l.session.client ≡ l.fn.session.client

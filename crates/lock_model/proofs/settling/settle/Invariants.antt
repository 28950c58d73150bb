use Rattle.lock_model.proofs.PassFacts.{SettledUpTo}
use Rattle.lock_model.proofs.settling.settle.Given as goal

abbrev pub invariant-loop-i : goal.invariant-loop-i
invariant-loop-i l = SettledUpTo l.problem l.node l.fn.entries l.fn.replies.items l.i l.entries l.replies.items

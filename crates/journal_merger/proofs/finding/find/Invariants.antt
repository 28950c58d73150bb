use Rattle.journal_merger.proofs.RoundFacts.{SoFar}
use Rattle.journal_merger.proofs.finding.find.Given as goal

-- the world is as it was, and the journals so far are idle
abbrev pub invariant-loop-index : goal.invariant-loop-index
invariant-loop-index g l = SoFar l.fn.world l.world l.journals l.index l.waits l.numbers

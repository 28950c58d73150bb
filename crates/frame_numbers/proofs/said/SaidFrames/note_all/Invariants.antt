use Rattle.frame_numbers.proofs.SaidFacts.{SoFar}
use Rattle.frame_numbers.proofs.said.SaidFrames.note_all.Given as goal

abbrev pub invariant-loop-number : goal.invariant-loop-number
invariant-loop-number g l = SoFar l.fn.self l.actors.sent l.number l.self

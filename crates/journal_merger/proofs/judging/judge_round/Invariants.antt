use Rattle.line_merger.specs.Judging.{IsOf}
use Rattle.world_model.specs.declared.exact.ExactWorld.{ExactWorld}
use Rattle.journal_merger.proofs.JudgeFacts.{SoFar}
use Rattle.journal_merger.proofs.judging.judge_round.Given as goal

-- the judge is as it was, and the journals so far are idle
abbrev pub invariant-loop-index : goal.invariant-loop-index
invariant-loop-index g l = (w : ExactWorld) → IsOf l.fn.judge w → SoFar w l.journals l.index l.waits l.judge

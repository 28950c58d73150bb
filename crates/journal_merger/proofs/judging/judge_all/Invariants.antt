use Rattle.line_merger.specs.Judging.{IsOf}
use Rattle.world_model.specs.declared.exact.ExactWorld.{ExactWorld}
use Rattle.journal_merger.proofs.JudgeFacts.{Stands}
use Rattle.journal_merger.proofs.judging.judge_all.Given as goal

-- the judging stands in a world of which the judge is, after so many lines
abbrev pub invariant-loop-lines : goal.invariant-loop-lines
invariant-loop-lines g l = (w : ExactWorld) → IsOf l.fn.judge w → (u : ExactWorld) × Stands w l.fn.journals l.journals u l.lines × IsOf l.judge u

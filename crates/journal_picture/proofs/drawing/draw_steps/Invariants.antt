use Rattle.journal_audit.proofs.JudgeFacts.{SoFar}
use Rattle.journal_audit.proofs.LeftFacts.{Took}
use Rattle.journal_picture.proofs.DrawFacts.{DrawnSoFar}
use Rattle.journal_picture.proofs.drawing.draw_steps.Given as goal

abbrev pub invariant-loop-taken : goal.invariant-loop-taken
invariant-loop-taken g l = record {
  so_far : SoFar l.fn.world l.fn.source l.source l.world l.taken;
  drawn : DrawnSoFar l.fn.world l.world l.fn.source l.source l.taken l.fn.drawer l.drawer (g.C.Canvas.drawn l.fn.canvas) (g.C.Canvas.drawn l.canvas);
  left : Took l.fn.world l.fn.source l.source l.world l.taken;
}

use Rattle.journal_audit.proofs.HearFacts.{HeardSoFar}
use Rattle.journal_audit.proofs.JudgeFacts.{SoFar}
use Rattle.journal_audit.proofs.LeftFacts.{Took}
use Rattle.journal_audit.proofs.judging.judge_lines.Given as goal

abbrev pub invariant-loop-taken : goal.invariant-loop-taken
invariant-loop-taken g l = record {
  so_far : SoFar l.fn.world l.fn.source l.source l.world l.taken;
  took : Took l.fn.world l.fn.source l.source l.world l.taken;
  heard : HeardSoFar l.fn.world l.world l.fn.source l.source (g.V.Watcher.heard l.fn.watcher) (g.V.Watcher.heard l.watcher);
}

use Rattle.line_streams.specs.Streams.{Grows, with_gathered}
use Rattle.operator_cli.proofs.HearFacts.{HeardSoFar}
use Rattle.operator_cli.proofs.ScriptFacts.{SoFar}
use Rattle.operator_cli.proofs.script.tell_lines.Given as goal

abbrev pub invariant-loop-number : goal.invariant-loop-number
invariant-loop-number g l = record {
  so_far : SoFar l.fn.world l.fn.source l.source (with_gathered (g.W.Write.contents l.fn.writer) l.fn.out) (with_gathered (g.W.Write.contents l.writer) l.out) l.refused l.world l.number;
  heard : HeardSoFar l.fn.world l.world l.fn.source l.source (g.V.Watcher.heard l.fn.watcher) (g.V.Watcher.heard l.watcher);
  grown : Grows (g.W.Write.contents l.fn.writer) (g.W.Write.contents l.writer);
}

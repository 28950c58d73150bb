use Rattle.std.proofs.Common.{◌≡◌, take}
use Rattle.std.specs.Io.KnownBytes.{Appends}
use Rattle.line_streams.specs.Streams.{Grows, with_gathered}
use Rattle.journal_text.specs.Journals.{history_text, AreWellNamed}
use Rattle.journal_text.proofs.writing.put_lines.Given as goal

-- the lines of the events so far were written or are gathered
abbrev pub invariant-loop-event : goal.invariant-loop-event
invariant-loop-event g l = record {
  text : Appends (with_gathered (g.W.Write.contents l.fn.writer) l.fn.out) (with_gathered (g.W.Write.contents l.writer) l.out) (history_text (take l.event-index l.history));
  grown : Grows (g.W.Write.contents l.fn.writer) (g.W.Write.contents l.writer);
  none : l.event-index ≡ 0 → l.out ≡ l.fn.out;
  named : AreWellNamed (take l.event-index l.history);
}

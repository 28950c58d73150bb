use Rattle.std.specs.Io.KnownBytes.{Keeps}
use Rattle.line_streams.proofs.holding.fill.Given as goal

abbrev pub invariant-loop-reads_left : goal.invariant-loop-reads_left
invariant-loop-reads_left g l = Keeps (g.R.Read.remaining l.fn.reader) (g.R.Read.remaining l.reader)

abbrev pub decreases-loop-reads_left : goal.decreases-loop-reads_left
decreases-loop-reads_left g l = l.reads_left

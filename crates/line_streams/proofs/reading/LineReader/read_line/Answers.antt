use Rattle.line_streams.proofs.WriteFacts.{more_left}
use Rattle.line_streams.proofs.reading.LineReader.read_line.Goals as goal

pub returns-clause-more : goal.returns-clause-more
returns-clause-more g c = more_left c.read_line.result c.read_line.new.self (g.R.Read.remaining c.read_line.new.reader) c.read_line.ensures.which

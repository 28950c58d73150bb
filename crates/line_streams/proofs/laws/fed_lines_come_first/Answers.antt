use Rattle.line_streams.proofs.LineFacts.{fed_lines_first}
use Rattle.line_streams.proofs.laws.fed_lines_come_first.Goals as goal

pub returns : goal.returns
returns c = fed_lines_first

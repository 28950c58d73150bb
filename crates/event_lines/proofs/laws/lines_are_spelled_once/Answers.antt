use Rattle.event_lines.proofs.LineLaws.{one_spelling}
use Rattle.event_lines.proofs.laws.lines_are_spelled_once.Goals as goal

pub returns : goal.returns
returns c = one_spelling

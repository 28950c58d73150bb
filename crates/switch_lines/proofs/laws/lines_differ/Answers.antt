use Rattle.switch_lines.proofs.SwitchFacts.{lines_differ}
use Rattle.switch_lines.proofs.laws.lines_differ.Goals as goal

pub returns : goal.returns
returns c = lines_differ

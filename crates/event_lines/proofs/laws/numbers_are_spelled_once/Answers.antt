use Rattle.event_lines.proofs.WordFacts.{spelled_once}
use Rattle.event_lines.proofs.laws.numbers_are_spelled_once.Goals as goal

pub returns : goal.returns
returns c = spelled_once

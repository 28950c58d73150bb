use Rattle.event_lines.proofs.EventLaws.{events_once}
use Rattle.event_lines.proofs.laws.events_are_spelled_once.Goals as goal

pub returns : goal.returns
returns c = events_once

use Rattle.event_lines.proofs.WishLaws.{wishes_once}
use Rattle.event_lines.proofs.laws.wishes_are_spelled_once.Goals as goal

pub returns : goal.returns
returns c = wishes_once

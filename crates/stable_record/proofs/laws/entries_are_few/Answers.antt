use Rattle.stable_record.proofs.CountFacts.{few}
use Rattle.stable_record.proofs.laws.entries_are_few.Goals as goal

pub returns : goal.returns
returns c = few

use Rattle.frame_numbers.proofs.NumberFacts.{index-grows}
use Rattle.frame_numbers.proofs.laws.indexes_grow.Goals as goal

pub returns : goal.returns
returns c = index-grows

use Rattle.vote_weights.proofs.ListFacts.{first-missed-iff}
use Rattle.vote_weights.proofs.laws.first_missed_are_told.Goals as goal

pub returns : goal.returns
returns c = first-missed-iff

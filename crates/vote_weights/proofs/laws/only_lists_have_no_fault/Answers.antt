use Rattle.vote_weights.proofs.ListFacts.{no-fault-iff}
use Rattle.vote_weights.proofs.laws.only_lists_have_no_fault.Goals as goal

pub returns : goal.returns
returns c = no-fault-iff

use Rattle.vote_weights.proofs.VoteFacts.{needs_in_range}
use Rattle.vote_weights.proofs.ballots.Ballot.write.Goals as goal

pub returns-clause-in_range : goal.returns-clause-in_range
returns-clause-in_range c = (needs_in_range _ _ _ c.self.invariant).1

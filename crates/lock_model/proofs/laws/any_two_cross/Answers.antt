use Rattle.lock_model.proofs.BallotFacts.{crosses-itself, any-two-cross}
use Rattle.lock_model.proofs.laws.any_two_cross.Goals as goal

pub returns : goal.returns
returns c = record { itself = crosses-itself; any_two = any-two-cross }

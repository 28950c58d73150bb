use Rattle.lock_model.proofs.BallotFacts.{enough-share}
use Rattle.lock_model.proofs.laws.enough_sets_share_a_node.Goals as goal

pub returns : goal.returns
returns c = enough-share

use Rattle.lock_model.proofs.BallotFacts.{enough-share-both}
use Rattle.lock_model.proofs.laws.enough_sets_share_a_node_of_both.Goals as goal

pub returns : goal.returns
returns c = enough-share-both

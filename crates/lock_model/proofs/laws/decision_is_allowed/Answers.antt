use Rattle.lock_model.proofs.DecisionFacts.{decision-allowed}
use Rattle.lock_model.proofs.laws.decision_is_allowed.Goals as goal

pub returns : goal.returns
returns c = decision-allowed

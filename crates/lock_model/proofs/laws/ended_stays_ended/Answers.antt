use Rattle.lock_model.proofs.DecisionFacts.{floors-never-fall, ended-stays}
use Rattle.lock_model.proofs.laws.ended_stays_ended.Goals as goal

pub returns : goal.returns
returns c = record { floors = floors-never-fall; ended = ended-stays }

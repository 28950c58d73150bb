use Rattle.lock_model.proofs.SettlingFacts.{settled-still}
use Rattle.lock_model.proofs.StationFacts.{nothing-to-settle}
use Rattle.lock_model.proofs.laws.caused_is_settled.Goals as goal

pub returns : goal.returns
returns c = record { station = nothing-to-settle; entries = settled-still }

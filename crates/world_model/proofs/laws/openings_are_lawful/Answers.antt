use Rattle.world_model.proofs.OpeningFacts.{opening-resumable, resumed-sound, resumed-lawful, only-within}
use Rattle.world_model.proofs.laws.openings_are_lawful.Goals as goal

pub returns-clause-empty : goal.returns-clause-empty
returns-clause-empty c = opening-resumable

pub returns-clause-sound : goal.returns-clause-sound
returns-clause-sound c = resumed-sound

pub returns-clause-lawful : goal.returns-clause-lawful
returns-clause-lawful c = resumed-lawful

pub returns-clause-only : goal.returns-clause-only
returns-clause-only c = only-within

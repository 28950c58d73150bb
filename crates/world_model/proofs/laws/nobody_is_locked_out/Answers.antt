use Rattle.world_model.proofs.WaysIn.{nobody-locked-out, others-only-go, dead-not-needed}
use Rattle.world_model.proofs.laws.nobody_is_locked_out.Goals as goal

pub returns-clause-way : goal.returns-clause-way
returns-clause-way c = nobody-locked-out

pub returns-clause-gently : goal.returns-clause-gently
returns-clause-gently c = others-only-go

pub returns-clause-without_the_dead : goal.returns-clause-without_the_dead
returns-clause-without_the_dead c = dead-not-needed

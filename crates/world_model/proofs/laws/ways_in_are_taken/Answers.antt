use Rattle.world_model.proofs.Deeds.{model-laws}
use Rattle.world_model.proofs.ExactWaysIn.{exact-way, exact-way-gently}
use Rattle.world_model.proofs.laws.ways_in_are_taken.Goals as goal

pub returns-clause-way : goal.returns-clause-way
returns-clause-way c = exact-way model-laws

pub returns-clause-without_the_dead : goal.returns-clause-without_the_dead
returns-clause-without_the_dead c = exact-way-gently model-laws

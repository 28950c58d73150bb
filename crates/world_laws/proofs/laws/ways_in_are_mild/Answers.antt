use Rattle.world_model.proofs.Deeds.{model-laws}
use Rattle.world_laws.proofs.MildWays.{mild-ways}
use Rattle.world_laws.proofs.laws.ways_in_are_mild.Goals as goal

pub returns : goal.returns
returns c = mild-ways model-laws

use Rattle.world_model.proofs.StayFacts.{parts-stay, clients-stay, leaving-ends}
use Rattle.world_model.proofs.laws.inside_until_leave_or_fall.Goals as goal

pub returns-clause-parts : goal.returns-clause-parts
returns-clause-parts c = parts-stay

pub returns-clause-clients : goal.returns-clause-clients
returns-clause-clients c = clients-stay c.locality.ensures.parts

pub returns-clause-ends : goal.returns-clause-ends
returns-clause-ends c = leaving-ends c.steps_change_one_part.ensures.changes

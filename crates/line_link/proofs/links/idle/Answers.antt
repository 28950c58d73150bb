use Rattle.line_link.specs.Carried.{none}
use Rattle.line_link.proofs.links.idle.Goals as goal

pub returns-in-Bring : goal.returns-in-Bring
returns-in-Bring g c = none

pub returns-in-Sleep : goal.returns-in-Sleep
returns-in-Sleep g c = none

pub returns-in-Some : goal.returns-in-Some
returns-in-Some g c = none

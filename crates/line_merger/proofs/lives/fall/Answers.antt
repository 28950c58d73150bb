use Rattle.std.proofs.Common.{sym, subst}
use Rattle.line_merger.specs.Lives.{Falls}
use Rattle.line_merger.proofs.LifeOffers.{falls-as}
use Rattle.line_merger.proofs.lives.fall.Goals as goal

pub returns : goal.returns
returns g c =
    subst (λ r. Falls c.args.actors.now c.args.who.now r c.step.new.self) (sym c.fell.ensures)
    (falls-as c.steps_change_one_part.ensures.own c.steps_change_one_part.ensures.list c.args.actors.now c.step.new.self c.args.who.now c.step.result c.step.ensures)

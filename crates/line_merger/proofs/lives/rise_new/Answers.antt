use Rattle.std.proofs.Common.{sym, subst}
use Rattle.own_journals.specs.declared.lines.OwnLine.TheVariants as own
use Rattle.line_merger.specs.Offers.{TakesLine}
use Rattle.line_merger.proofs.LifeOffers.{new-offered, new-settled}
use Rattle.line_merger.proofs.lives.rise_new.Goals as goal

pub returns-in-Ok : goal.returns-in-Ok
returns-in-Ok g c = λ w fell apart.
    subst (λ r. TakesLine w c.args.who.now (own.Life c.args.who.now c.args.found.now) r c.step.new.self) (sym c.settled.ensures)
    (new-settled c.steps_change_one_part.ensures.changes c.steps_change_one_part.ensures.effects w c.args.actors.now c.step.new.self c.args.who.now c.args.found.now _ c.finds.result c.args.fell (rw c.in-Ok.is at c.step.ensures) c.finds.ensures fell apart)

pub returns-in-Err : goal.returns-in-Err
returns-in-Err g c = λ w fell apart.
    let refused = rw c.in-Err.is at c.step.ensures in
    subst (λ r. TakesLine w c.args.who.now (own.Life c.args.who.now c.args.found.now) r c.step.new.self) (sym c.refused.ensures)
    (new-offered c.steps_change_one_part.ensures.own c.steps_change_one_part.ensures.list c.steps_change_one_part.ensures.changes c.steps_change_one_part.ensures.effects w c.args.actors.now c.step.new.self c.args.who.now c.args.found.now c.in-Err.fault c.args.fell c.room.ensures refused fell apart)

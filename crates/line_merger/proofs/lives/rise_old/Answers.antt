use Rattle.std.proofs.Common.{sym, subst}
use Rattle.own_journals.specs.declared.lines.OwnLine.TheVariants as own
use Rattle.line_merger.specs.Offers.{TakesLine}
use Rattle.line_merger.proofs.LifeOffers.{old-offered}
use Rattle.line_merger.proofs.lives.rise_old.Goals as goal

pub returns : goal.returns
returns g c = λ w found fell kept.
    subst (λ r. TakesLine w c.args.who.now (own.Life c.args.who.now found) r c.step.new.self) (sym c.offered.ensures)
    (old-offered c.steps_change_one_part.ensures.own c.steps_change_one_part.ensures.list c.steps_change_one_part.ensures.changes c.steps_change_one_part.ensures.effects w c.args.actors.now c.step.new.self c.args.who.now found c.step.result c.args.fell c.step.ensures fell kept)

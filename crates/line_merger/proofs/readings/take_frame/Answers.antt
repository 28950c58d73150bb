use Rattle.std.proofs.Common.{◌∙◌, sym, refl}
use Rattle.line_merger.proofs.OfferFacts.{reads-waits, reads-unsaid}
use Rattle.line_merger.proofs.readings.take_frame.Goals as goal

pub returns-in-None-clause-takes : goal.returns-in-None-clause-takes
returns-in-None-clause-takes g c = (
  refl,
  reads-waits c.args.actors.now c.args.who.now c.args.frame.now c.catch_up.new.self (c.in-Ok.ensures.whole c.requires) (sym c.number_of.ensures ∙ c.in-None.is),
  reads-unsaid c.args.actors.now c.args.who.now c.args.frame.now c.catch_up.new.self (c.in-Ok.ensures.whole c.requires) (sym c.number_of.ensures ∙ c.in-None.is),
)

pub returns-in-Some-clause-index : goal.returns-in-Some-clause-index
returns-in-Some-clause-index g c = c.take_numbered.ensures.index c.catch_up.new.self (c.catch_up.ensures.index c.requires)

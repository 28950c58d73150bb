use Rattle.std.proofs.Common.{◌∙◌, sym, subst}
use Rattle.own_journals.specs.declared.lines.OwnLine.TheVariants as own
use Rattle.line_merger.specs.Offers.{TakesLine}
use Rattle.line_merger.proofs.OfferFacts.{plain-taken, not-another, others-event, reading-event, is-none}
use Rattle.line_merger.proofs.events.take_event.Goals as goal

pub returns : goal.returns
returns g c =
    subst (λ r. TakesLine c.args.actors.now c.args.who.now (own.Does c.args.event.now) r c.step.new.self) (sym c.offered.ensures)
    (plain-taken c.steps_change_one_part.ensures.own c.steps_change_one_part.ensures.list c.args.actors.now c.step.new.self c.args.who.now c.args.event.now c.step.result (not-another _ (sym c.is_of_another.ensures ∙ c.if-is_of_another.false)) (sym c.reads.ensures ∙ c.if-reads.false) c.step.ensures)

pub returns-then-is_of_another : goal.returns-then-is_of_another
returns-then-is_of_another g c = others-event c.args.actors.now c.args.who.now c.args.event.now (is-none _ (sym c.is_of_another.ensures ∙ c.if-is_of_another.true))

pub returns-then-reads : goal.returns-then-reads
returns-then-reads g c = reading-event c.args.actors.now c.args.who.now c.args.event.now (sym c.reads.ensures ∙ c.if-reads.true)

use Rattle.std.proofs.Common.{◌∙◌, sym, subst}
use Rattle.own_journals.specs.declared.lines.OwnLine.TheVariants as own
use Rattle.line_merger.specs.Offers.{TakesLine}
use Rattle.line_merger.proofs.OfferFacts.{frame-offered, index-after}
use Rattle.line_merger.proofs.readings.take_numbered.Goals as goal

pub returns-clause-takes : goal.returns-clause-takes
returns-clause-takes g c = λ frame has.
    subst (λ r. TakesLine c.args.actors.now c.args.who.now (own.Reads c.args.who.now frame) r c.step.new.self) (sym c.offered.ensures)
    (frame-offered c.steps_change_one_part.ensures.own c.steps_change_one_part.ensures.list c.steps_change_one_part.ensures.messages c.one_spelling.ensures c.args.actors.now c.step.new.self c.args.who.now c.args.number c.in-Some.message c.reading_by-event.result c.step.result c.room.ensures (sym c.sent.ensures ∙ c.in-Some.is) c.is_message.ensures c.reading_by-event.ensures c.step.ensures frame has)

pub returns-clause-index : goal.returns-clause-index
returns-clause-index g c = λ s index. index-after c.steps_change_one_part.ensures.changes c.indexes_grow.ensures c.args.actors.now c.step.new.self c.reading_by-event.result c.step.result s c.step.ensures index

use Rattle.std.proofs.Common.{sym, subst}
use Rattle.std.specs.Prelude.{IfOk}
use Rattle.own_journals.specs.declared.lines.OwnLine.TheVariants as own
use Rattle.frame_numbers.specs.FrameNumbers.{IsIndexOf}
use Rattle.line_merger.specs.Offers.{TakesLine, TriesLine, TryGoesOn}
use Rattle.line_merger.proofs.LineFacts.{index-on, tried-is, tried-index, tries-anyone, tried-still}
use Rattle.line_merger.proofs.lines.try_line.Goals as goal

pub returns-in-Life-clause-takes : goal.returns-in-Life-clause-takes
returns-in-Life-clause-takes g c =
    subst (λ r. TriesLine c.args.actors.now c.args.who.now c.args.line.now r c.take_life_of.new.actors) (sym c.tried.ensures)
    (tried-is c.args.actors.now c.take_life_of.new.actors c.args.who.now c.args.line.now c.take_life_of.result
    (subst (λ l. TakesLine c.args.actors.now c.args.who.now l c.take_life_of.result c.take_life_of.new.actors) (sym c.in-Life.is) c.take_life_of.ensures))

pub returns-in-Life-clause-index : goal.returns-in-Life-clause-index
returns-in-Life-clause-index g c =
    subst (λ r. IfOk r (λ o. TryGoesOn o → IsIndexOf c.args.numbers.now c.take_life_of.new.actors.sent)) (sym c.tried.ensures)
    (tried-index c.take_life_of.new.actors c.take_life_of.result c.args.numbers.now
    (index-on c.steps_change_one_part.ensures.changes c.indexes_grow.ensures c.args.actors.now c.take_life_of.new.actors c.args.who.now (own.Life c.in-Life.whose c.in-Life.found) c.take_life_of.result c.args.numbers.now c.take_life_of.ensures c.requires))

pub returns-in-Reads-clause-takes : goal.returns-in-Reads-clause-takes
returns-in-Reads-clause-takes g c = tries-anyone c.args.actors.now c.take_lately.new.actors c.args.who.now _ c.args.line.now c.in-Reads.frame c.take_lately.result c.in-Reads.is c.take_lately.ensures.takes

pub returns-in-Reads-clause-index : goal.returns-in-Reads-clause-index
returns-in-Reads-clause-index g c = tried-still c.take_lately.new.actors c.take_lately.result c.take_lately.new.numbers c.take_lately.ensures.index

pub returns-in-Does-clause-takes : goal.returns-in-Does-clause-takes
returns-in-Does-clause-takes g c =
    subst (λ r. TriesLine c.args.actors.now c.args.who.now c.args.line.now r c.take_event.new.actors) (sym c.tried-in-Does.ensures)
    (tried-is c.args.actors.now c.take_event.new.actors c.args.who.now c.args.line.now c.take_event.result
    (subst (λ l. TakesLine c.args.actors.now c.args.who.now l c.take_event.result c.take_event.new.actors) (sym c.in-Does.is) c.take_event.ensures))

pub returns-in-Does-clause-index : goal.returns-in-Does-clause-index
returns-in-Does-clause-index g c =
    subst (λ r. IfOk r (λ o. TryGoesOn o → IsIndexOf c.args.numbers.now c.take_event.new.actors.sent)) (sym c.tried-in-Does.ensures)
    (tried-index c.take_event.new.actors c.take_event.result c.args.numbers.now
    (index-on c.steps_change_one_part.ensures.changes c.indexes_grow.ensures c.args.actors.now c.take_event.new.actors c.args.who.now (own.Does c.in-Does.event) c.take_event.result c.args.numbers.now c.take_event.ensures c.requires))

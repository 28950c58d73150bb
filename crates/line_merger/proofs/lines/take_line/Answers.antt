use Rattle.std.proofs.Common.{sym, subst}
use Rattle.own_journals.specs.declared.lines.OwnLine.TheVariants as own
use Rattle.line_merger.specs.Offers.{TakesLine}
use Rattle.line_merger.proofs.LineFacts.{index-on, index-still, reads-as}
use Rattle.line_merger.proofs.lines.take_line.Goals as goal

pub returns-in-Life-clause-takes : goal.returns-in-Life-clause-takes
returns-in-Life-clause-takes g c =
    subst (λ l. TakesLine c.args.actors.now c.args.who.now l c.take_life_of.result c.take_life_of.new.actors) (sym c.in-Life.is) c.take_life_of.ensures

pub returns-in-Life-clause-index : goal.returns-in-Life-clause-index
returns-in-Life-clause-index g c =
    index-on c.steps_change_one_part.ensures.changes c.indexes_grow.ensures c.args.actors.now c.take_life_of.new.actors c.args.who.now (own.Life c.in-Life.whose c.in-Life.found) c.take_life_of.result c.args.numbers.now c.take_life_of.ensures c.requires

pub returns-in-Reads-clause-takes : goal.returns-in-Reads-clause-takes
returns-in-Reads-clause-takes g c = reads-as c.args.actors.now c.take_frame.new.actors c.args.who.now _ c.args.line.now c.in-Reads.frame c.take_frame.result c.in-Reads.is c.take_frame.ensures.takes

pub returns-in-Reads-clause-index : goal.returns-in-Reads-clause-index
returns-in-Reads-clause-index g c = index-still c.take_frame.new.actors c.take_frame.result c.take_frame.new.numbers c.take_frame.ensures.index

pub returns-in-Does-clause-takes : goal.returns-in-Does-clause-takes
returns-in-Does-clause-takes g c =
    subst (λ l. TakesLine c.args.actors.now c.args.who.now l c.take_event.result c.take_event.new.actors) (sym c.in-Does.is) c.take_event.ensures

pub returns-in-Does-clause-index : goal.returns-in-Does-clause-index
returns-in-Does-clause-index g c =
    index-on c.steps_change_one_part.ensures.changes c.indexes_grow.ensures c.args.actors.now c.take_event.new.actors c.args.who.now (own.Does c.in-Does.event) c.take_event.result c.args.numbers.now c.take_event.ensures c.requires

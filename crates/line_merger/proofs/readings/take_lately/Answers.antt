use Rattle.std.proofs.Common.{sym, subst}
use Rattle.own_journals.specs.declared.lines.OwnLine.TheVariants as own
use Rattle.frame_numbers.specs.FrameNumbers.{IsIndexOf}
use Rattle.line_merger.specs.Offers.{TriesLine}
use Rattle.line_merger.proofs.LineFacts.{tried-is}
use Rattle.line_merger.proofs.readings.take_lately.Goals as goal

pub returns-in-Some-clause-takes : goal.returns-in-Some-clause-takes
returns-in-Some-clause-takes g c =
    subst (λ r. TriesLine c.args.actors.now c.args.who.now (own.Reads c.args.who.now c.args.frame.now) r c.take_numbered.new.actors) (sym c.tried.ensures)
    (tried-is c.args.actors.now c.take_numbered.new.actors c.args.who.now (own.Reads c.args.who.now c.args.frame.now) c.take_numbered.result (c.take_numbered.ensures.takes c.args.frame.now (rw c.in-Some.is at c.in-Ok.ensures.found)))

pub returns-in-Some-clause-index : goal.returns-in-Some-clause-index
returns-in-Some-clause-index g c = c.take_numbered.ensures.index c.number_lately.new.self (subst (λ s. IsIndexOf s c.args.actors.now.sent) (sym c.number_lately.ensures.same) c.requires)

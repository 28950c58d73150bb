use Rattle.std.proofs.Common.{sym, subst}
use Rattle.std.specs.Prelude.{IfOk}
use Rattle.journal_merger.specs.Merges.{IsTurn, IsGoing, turn_of}
use Rattle.frame_numbers.specs.FrameNumbers.{IsIndexOf}
use Rattle.journal_merger.proofs.RoundFacts.{turn-is, turn-index}
use Rattle.journal_merger.proofs.finding.offer_next.Goals as goal

pub returns-in-Some-clause-turn : goal.returns-in-Some-clause-turn
returns-in-Some-clause-turn g c =
    subst (λ r. IfOk r (λ t. IsTurn c.args.world.now c.args.who.now c.args.next.now t c.take_line.new.actors)) (sym c.turn_of.ensures)
    (subst (λ n. IfOk (turn_of c.take_line.result) (λ t. IsTurn c.args.world.now c.args.who.now n t c.take_line.new.actors)) (sym c.in-Some.is)
    (turn-is c.args.world.now c.take_line.new.actors c.args.who.now c.in-Some.line c.take_line.result c.take_line.ensures.takes))

pub returns-in-Some-clause-index : goal.returns-in-Some-clause-index
returns-in-Some-clause-index g c =
    subst (λ r. IfOk r (λ t. IsGoing t → IsIndexOf c.take_line.new.numbers c.take_line.new.actors.sent)) (sym c.turn_of.ensures)
    (turn-index c.take_line.new.numbers c.take_line.new.actors c.take_line.result c.take_line.ensures.index)

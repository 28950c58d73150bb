use Rattle.std.proofs.Common.{sym, subst}
use Rattle.std.specs.Prelude.{IfOk}
use Rattle.journal_merger.specs.Merges.{IsTriedTurn, IsTryGoing, turn_tried}
use Rattle.frame_numbers.specs.FrameNumbers.{IsIndexOf}
use Rattle.journal_merger.proofs.RoundFacts.{tried-turn, tried-going}
use Rattle.journal_merger.proofs.finding.try_next.Goals as goal

pub returns-in-Some-clause-turn : goal.returns-in-Some-clause-turn
returns-in-Some-clause-turn g c =
    subst (λ r. IfOk r (λ t. IsTriedTurn c.args.world.now c.args.who.now c.args.next.now t c.try_line.new.actors)) (sym c.turn_tried.ensures)
    (subst (λ n. IfOk (turn_tried c.try_line.result) (λ t. IsTriedTurn c.args.world.now c.args.who.now n t c.try_line.new.actors)) (sym c.in-Some.is)
    (tried-turn c.args.world.now c.try_line.new.actors c.args.who.now c.in-Some.line c.try_line.result c.try_line.ensures.takes))

pub returns-in-Some-clause-index : goal.returns-in-Some-clause-index
returns-in-Some-clause-index g c =
    subst (λ r. IfOk r (λ t. IsTryGoing t → IsIndexOf c.try_line.new.numbers c.try_line.new.actors.sent)) (sym c.turn_tried.ensures)
    (tried-going c.try_line.new.numbers c.try_line.new.actors c.try_line.result c.try_line.ensures.index)

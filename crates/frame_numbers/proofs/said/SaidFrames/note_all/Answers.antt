use Rattle.std.proofs.Common.{◌∙◌, sym, arith}
use Rattle.frame_numbers.proofs.SaidFacts.{none-so-far, noted, none_next, full_list}
use Rattle.frame_numbers.proofs.said.SaidFrames.note_all.Goals as goal

pub loop-number-init : goal.loop-number-init
loop-number-init g c = none-so-far c.args.self.now c.args.actors.now.sent

pub loop-number-preserved : goal.loop-number-preserved
loop-number-preserved g c =
    noted c.args.self.now c.loop-number.self c.note.new.self c.args.actors.now.sent c.loop-number.number c.in-Some.message c.loop-number.invariant (sym c.sent.ensures ∙ c.in-Some.is) c.note.ensures.known c.in_ok-note.ensures.adds

pub returns-in_default : goal.returns-in_default
returns-in_default g c = none_next c.args.self.now c.loop-number.self c.args.actors.now.sent c.loop-number.number c.loop-number.invariant (sym c.sent.ensures ∙ c.in_default.is)

pub returns : goal.returns
returns g c = full_list c.args.self.now c.loop-number.self c.args.actors.now.sent c.loop-number.number c.loop-number.invariant c.room.ensures (omega (arith, c.loop-number-test.false))

use Rattle.std.proofs.Common.{sym, ◌∙◌, arith}
use Rattle.world_model.specs.Numbered.{past-zero}
use Rattle.world_machine.proofs.stepping.message_at.Goals as goal

pub returns : goal.returns
returns c = c.message_at_place.ensures ∙ sym (past-zero c.args.sent.now c.args.number (omega (arith, c.if-number-eq0.false)))

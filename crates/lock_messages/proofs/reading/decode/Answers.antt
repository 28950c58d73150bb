use Rattle.std.proofs.Common.{ap, ◌∙◌, arith}
use Rattle.lock_messages.specs.Reading.{reading}
use Rattle.lock_messages.proofs.FrameFacts.{is_found, reading_again}
use Rattle.lock_messages.proofs.reading.decode.Goals as goal

pub returns-clause-found : goal.returns-clause-found
returns-clause-found c = is_found c.args.frame.now c.whole.result (λ i. omega (arith, c.type_inv.frame i)) c.whole.ensures

pub returns-clause-only : goal.returns-clause-only
returns-clause-only c = λ m fits e. c.whole.ensures ∙ ap reading e ∙ reading_again m fits

use Rattle.std.proofs.Common.{sym, subst}
use Rattle.line_merger.specs.Judging.{TakesRecalled}
use Rattle.line_merger.proofs.JudgeFacts.{life-taken, does-taken, reads-recalled}
use Rattle.line_merger.proofs.judging.take_any.Goals as goal

pub returns-in-Life : goal.returns-in-Life
returns-in-Life g c = λ w is.
    subst (λ l. TakesRecalled w c.args.who.now l c.take_life_of.result c.take_life_of.new.actors) (sym c.in-Life.is)
    (life-taken (record { actors = c.args.actors.now; frames = c.args.said.now }) w c.take_life_of.new.actors c.args.who.now c.in-Life.whose c.in-Life.found c.take_life_of.result is c.take_life_of.ensures)

pub returns-in-Reads : goal.returns-in-Reads
returns-in-Reads g c = λ w is.
    subst (λ l. TakesRecalled w c.args.who.now l c.take_said.result c.take_said.new.actors) (sym c.in-Reads.is)
    (reads-recalled w c.take_said.new.actors c.args.who.now _ c.in-Reads.frame c.take_said.result (c.take_said.ensures w is))

pub returns-in-Does : goal.returns-in-Does
returns-in-Does g c = λ w is.
    subst (λ l. TakesRecalled w c.args.who.now l c.take_event.result c.take_event.new.actors) (sym c.in-Does.is)
    (does-taken (record { actors = c.args.actors.now; frames = c.args.said.now }) w c.take_event.new.actors c.args.who.now c.in-Does.event c.take_event.result is c.take_event.ensures)

use Rattle.std.proofs.Common.{◌∙◌, sym}
use Rattle.own_journals.specs.declared.lines.OwnLine.TheVariants as own
use Rattle.line_merger.specs.declared.offers.MergeFault.TheVariants as fault
use Rattle.line_merger.proofs.JudgeFacts.{unsaid-waits, undecoded, no-offer, said-taken}
use Rattle.line_merger.proofs.judging.take_said.Goals as goal

pub returns-then-not-has : goal.returns-then-not-has
returns-then-not-has g c = λ w is. unsaid-waits (record { actors = c.args.actors.now; frames = c.args.said.now }) w c.args.who.now c.args.frame.now is (sym c.has.ensures ∙ c.if-not-has.true)

pub returns-in_default : goal.returns-in_default
returns-in_default g c = λ w is. absurd (undecoded (record { actors = c.args.actors.now; frames = c.args.said.now }) w c.args.frame.now is (sym c.has.ensures ∙ c.if-not-has.false)
    (λ m known same. c.in_default.not-Ok m (c.decode.ensures.only m known (c.deref.ensures ∙ same))))

pub returns-in_default-bring : goal.returns-in_default-bring
returns-in_default-bring g c = λ w is. no-offer w c.bring.new.self c.args.who.now (own.Reads c.args.who.now c.args.frame.now) fault.Memory

pub returns : goal.returns
returns g c = λ w is.
    said-taken c.one_spelling.ensures (record { actors = c.args.actors.now; frames = c.args.said.now }) w c.take_numbered.new.actors c.bring.new.self c.args.who.now c.args.frame.now c.in-Ok.message c.take_numbered.result is (sym c.has.ensures ∙ c.if-not-has.false)
    c.in-Ok.ensures.found.0 (sym c.deref.ensures ∙ c.in-Ok.ensures.found.1) c.in-Ok-bring.ensures.brought c.take_numbered.ensures.takes

use Rattle.std.proofs.Common.{◌∙◌, sym}
use Rattle.line_merger.proofs.OfferFacts.{not-another}
use Rattle.line_merger.proofs.LineFacts.{other-refused, same-life, is-apart}
use Rattle.line_merger.proofs.lines.take_life_of.Goals as goal

pub returns-then-is_another : goal.returns-then-is_another
returns-then-is_another g c = other-refused c.args.actors.now c.args.who.now c.args.whose.now c.args.found.now (is-apart _ (sym c.is_another.ensures ∙ c.if-is_another.true))

pub returns : goal.returns
returns g c = same-life c.args.actors.now c.take_life.new.actors c.args.who.now c.args.whose.now c.args.found.now c.take_life.result (not-another _ (sym c.is_another.ensures ∙ c.if-is_another.false)) c.take_life.ensures

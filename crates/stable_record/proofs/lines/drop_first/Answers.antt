use Rattle.std.proofs.Common.{◌==◌, sym, ◌∙◌, ap}
use Rattle.std.specs.List.{position}
use Rattle.stable_record.proofs.QueueFacts.{dropped-found, dropped-missing}
use Rattle.stable_record.proofs.lines.drop_first.Goals as goal

pub returns-in-Some : goal.returns-in-Some
returns-in-Some c =
    c.remove.ensures.items
    ∙ dropped-found c.args.client c.args.queue.now.items c.in-Some.place (ap (position (λ d. d == c.args.client)) (sym c.as_slice.ensures.value) ∙ sym c.place_of.ensures ∙ c.in-Some.is)

pub returns-in_default : goal.returns-in_default
returns-in_default c =
    sym (dropped-missing c.args.client c.args.queue.now.items (ap (position (λ d. d == c.args.client)) (sym c.as_slice.ensures.value) ∙ sym c.place_of.ensures ∙ c.in_default.is))

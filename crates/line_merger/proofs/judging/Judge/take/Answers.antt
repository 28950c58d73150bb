use Rattle.std.proofs.Common.{sym, subst}
use Rattle.line_merger.specs.Judging.{Judged, IsOf}
use Rattle.line_merger.proofs.JudgeFacts.{judged-ok, not-judged}
use Rattle.line_merger.proofs.judging.Judge.take.Goals.{in-Ok-take_in, in-Err}
use Rattle.line_merger.proofs.judging.Judge.take.Goals as goal

pub returns : goal.returns
returns g c = λ w is.
    let before : Judged = record { actors = c.self.inside.actors; frames = c.self.inside.said } in
    let after : Judged = record { actors = c.take_in.new.actors; frames = c.take_in.new.self } in
    let of : IsOf before w = subst (λ j. IsOf j w) (sym c.self.view_is) is in
    elim c.match-take_in.branch [
      | in-Ok-take_in b ↦
          judged-ok c.steps_change_one_part.ensures.changes c.steps_change_one_part.ensures.effects c.steps_change_one_part.ensures.messages w c.take_any.new.actors c.args.who.now c.args.line.now before after c.take_any.result c.in-Ok.offer c.match-take_in.result of (c.take_any.ensures w of) c.in-Ok.is b.in-Ok-take_in.ensures.adds b.in-Ok-take_in.ensures.forgets b.result-is
      | in-Err b ↦ not-judged w c.args.who.now c.args.line.now after c.match-take_in.result _ b.result-is
    ]

use Rattle.std.proofs.Common.{subst}
use Rattle.run_picture.specs.Pictures.{Drawn}
use Rattle.journal_picture.specs.Drawings.{DrawsJournal}
use Rattle.journal_picture.proofs.DrawFacts.{journal_drawn, left_so}
use Rattle.journal_picture.proofs.drawing.draw_lines.Goals as goal

pub returns-in-Ok-draw_steps-clause-drawn : goal.returns-in-Ok-draw_steps-clause-drawn
returns-in-Ok-draw_steps-clause-drawn g c =
    let out = g.C.Canvas.drawn in
    subst (λ (d : Drawn). DrawsJournal c.args.world d c.args.source.now (out c.args.canvas.now) (out c.draw_end.new.canvas) c.draw_end.result) c.in-Ok.ensures
    (journal_drawn c.args.world c.draw_steps.new.world c.args.source.now c.in-Ok.drawer c.in-Ok-draw_steps.drawer (out c.args.canvas.now) (out c.draw_steps.new.canvas) (out c.draw_end.new.canvas) c.in-Ok-draw_steps.verdict c.draw_end.result
    c.in-Ok-draw_steps.ensures.drawn c.draw_end.ensures.found c.draw_end.ensures.drawn c.draw_end.ensures.end)

pub returns-in-Ok-draw_steps-clause-left : goal.returns-in-Ok-draw_steps-clause-left
returns-in-Ok-draw_steps-clause-left g c =
    left_so c.args.world c.args.source.now c.draw_steps.new.source c.in-Ok-draw_steps.verdict c.draw_end.result c.in-Ok-draw_steps.ensures.left c.draw_end.ensures.found

use Rattle.std.proofs.Common.{ℕ, Ok, subst}
use Rattle.picture_cli.specs.Drawing.{DrawsBehind}
use Rattle.picture_cli.proofs.DrawFacts.{picture_drawn}
use Rattle.picture_cli.proofs.serving.draw_world.Goals as goal

pub returns-in-Err-clause-found : goal.returns-in-Err-clause-found
returns-in-Err-clause-found g c = c.told.ensures.found c.args.world c.args.source.now

pub returns-in-Ok-draw_lines-clause-found : goal.returns-in-Ok-draw_lines-clause-found
returns-in-Ok-draw_lines-clause-found g c = c.told-in-Err-end.ensures.found c.args.world c.args.source.now

pub returns-in-Ok-end-clause-drawn : goal.returns-in-Ok-end-clause-drawn
returns-in-Ok-end-clause-drawn g c =
    let out = g.C.Canvas.drawn in
    let d = c.in-Ok-draw_lines.field-0 in
    subst (λ (n : ℕ). DrawsBehind c.args.world n c.args.settings.now.clients c.args.part c.args.source.now (out c.args.canvas.now) (out c.end.new.self) (Ok d.verdict)) c.nodes-nodes.ensures.nodes
    (picture_drawn c.args.world c.nodes-nodes.result c.args.settings.now.clients c.args.part c.in-Ok.lasting.items c.as_slice.result.now c.args.source.now (out c.args.canvas.now) (out c.begin.new.self) (out c.draw_lines.new.canvas) (out c.end.new.self) d
    c.in-Ok.ensures c.as_slice.ensures.value c.in_default-begin.ensures c.in-Ok-draw_lines.ensures.drawn c.in-Ok-end.ensures)

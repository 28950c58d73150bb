use Rattle.std.proofs.Common.{List, ℕ, Option, Ok, Err, subst}
use Rattle.world_settings.specs.Heads.{Starts}
use Rattle.world_settings.specs.declared.commands.Command.TheVariants as command
use Rattle.picture_cli.proofs.DrawFacts.{verdict_shown, fault_shown, unmade_shown, picture_shown, fault_kept, fault_drawn, seen_kept}
use Rattle.picture_cli.proofs.serving.draw_journal.Goals as goal

pub returns-in-Ok-draw_world-clause-shown : goal.returns-in-Ok-draw_world-clause-shown
returns-in-Ok-draw_world-clause-shown g c =
    let h = subst (λ (s : Option (List ℕ)). Starts command.Audit s c.read_start.new.source (Ok c.in-Ok.start)) c.new-source.ensures c.in-Ok.ensures.start in
    verdict_shown c.events_are_spelled_once.ensures c.in-Ok.start c.in-Ok-world_down.world (g.R.Read.remaining c.args.reader) c.read_start.new.source c.in-Ok-draw_world.verdict h c.in-Ok-world_down.ensures c.in-Ok-draw_world.ensures.found

pub returns-in-Ok-draw_world-clause-drawn : goal.returns-in-Ok-draw_world-clause-drawn
returns-in-Ok-draw_world-clause-drawn g c =
    let h = subst (λ (s : Option (List ℕ)). Starts command.Audit s c.read_start.new.source (Ok c.in-Ok.start)) c.new-source.ensures c.in-Ok.ensures.start in
    picture_shown c.in-Ok.start c.in-Ok-world_down.world (g.R.Read.remaining c.args.reader) c.read_start.new.source c.args.part (g.C.Canvas.drawn c.args.canvas.now) (g.C.Canvas.drawn c.draw_world.new.canvas) c.in-Ok-draw_world.verdict h c.in-Ok-world_down.ensures c.in-Ok-draw_world.ensures.drawn

pub returns-clause-shown : goal.returns-clause-shown
returns-clause-shown g c =
    let h = subst (λ (s : Option (List ℕ)). Starts command.Audit s c.read_start.new.source (Ok c.in-Ok.start)) c.new-source.ensures c.in-Ok.ensures.start in
    fault_shown c.events_are_spelled_once.ensures c.in-Ok.start c.in-Ok-world_down.world (g.R.Read.remaining c.args.reader) c.read_start.new.source c.in-Err-draw_world.fault h c.in-Ok-world_down.ensures c.in-Err-draw_world.ensures.found

pub returns-in_default-clause-shown : goal.returns-in_default-clause-shown
returns-in_default-clause-shown g c =
    let h = subst (λ (s : Option (List ℕ)). Starts command.Audit s c.read_start.new.source (Ok c.in-Ok.start)) c.new-source.ensures c.in-Ok.ensures.start in
    unmade_shown c.in-Ok.start (g.R.Read.remaining c.args.reader) c.read_start.new.source h

pub returns-clause-kept : goal.returns-clause-kept
returns-clause-kept g c =
    fault_kept c.in-Ok-world_down.world c.read_start.new.source c.in-Err-draw_world.fault c.args.canvas.now c.draw_world.new.canvas c.in-Err-draw_world.ensures.found c.in-Err-draw_world.ensures.unbegun

pub returns-clause-drawn : goal.returns-clause-drawn
returns-clause-drawn g c =
    let kept = fault_kept c.in-Ok-world_down.world c.read_start.new.source c.in-Err-draw_world.fault c.args.canvas.now c.draw_world.new.canvas c.in-Err-draw_world.ensures.found c.in-Err-draw_world.ensures.unbegun in
    fault_drawn (g.R.Read.remaining c.args.reader) c.args.part c.in-Err-draw_world.fault (g.C.Canvas.drawn c.args.canvas.now) (g.C.Canvas.drawn c.draw_world.new.canvas)
    (seen_kept g.C.Canvas.drawn (Err c.in-Err-draw_world.fault) c.args.canvas.now c.draw_world.new.canvas kept)

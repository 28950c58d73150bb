use Rattle.std.proofs.Common.{◌∙◌, ◌+◌, sym, ap}
use Rattle.std.specs.Option.{option_to_list}
use Rattle.world_model.specs.ExactWorlds.{numbered}
use Rattle.world_model.specs.Numbered.{numbered-one}
use Rattle.journal_picture.specs.Drawings.{lost_by}
use Rattle.journal_picture.proofs.TellFacts.{lost_more}
use Rattle.journal_picture.proofs.ending.draw_lost.Goals as goal

pub loop-before-preserved : goal.loop-before-preserved
loop-before-preserved g c =
    let number = c.loop-before.before + 1 in
    let sent = c.args.world.now.sent in
    record {
      drawn = lost_more (λ k. lost_by c.args.drawer.now k (numbered sent k)) c.loop-before.before (g.C.Canvas.drawn c.args.canvas.now) (g.C.Canvas.drawn c.loop-before.canvas) (g.C.Canvas.drawn c.draw_some.new.canvas) (option_to_list c.lost.result)
          c.loop-before.invariant.drawn c.in_default-draw_some.ensures.drawn (ap option_to_list c.lost.ensures ∙ ap (lost_by c.args.drawer.now number) c.in-Some.ensures);
      few = (numbered-one sent number c.in-Some.message (sym c.in-Some.ensures)).1;
    }

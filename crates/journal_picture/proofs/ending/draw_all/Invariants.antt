use Rattle.std.proofs.Common.{◌≡◌, take}
use Rattle.journal_picture.specs.Histories.{with_more}
use Rattle.journal_picture.proofs.ending.draw_all.Given as goal

abbrev pub invariant-loop-mark : goal.invariant-loop-mark
invariant-loop-mark g l = g.C.Canvas.drawn l.canvas ≡ with_more (take l.mark-index l.marks) (g.C.Canvas.drawn l.fn.canvas)

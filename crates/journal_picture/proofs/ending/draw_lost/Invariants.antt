use Rattle.std.proofs.Common.{◌≡◌, ◌≤◌, length}
use Rattle.std.specs.List.{flat_map, range_with_len}
use Rattle.world_model.specs.ExactWorlds.{numbered}
use Rattle.journal_picture.specs.Drawings.{lost_by}
use Rattle.journal_picture.specs.Histories.{with_more}
use Rattle.journal_picture.proofs.ending.draw_lost.Given as goal

abbrev pub invariant-loop-before : goal.invariant-loop-before
invariant-loop-before g l = record {
  drawn : g.C.Canvas.drawn l.canvas ≡ with_more (flat_map (λ k. lost_by l.drawer k (numbered l.world.sent k)) (range_with_len 1 l.before)) (g.C.Canvas.drawn l.fn.canvas);
  few : l.before ≤ length l.world.sent;
}

use Rattle.std.proofs.Common.{◌≡◌, List}
use Rattle.frame_numbers.specs.FrameNumbers.{IsIndexOf}
use Rattle.merge_model.proofs.OwnRunFacts.{Pair}
use Rattle.journal_merger.proofs.StandFacts.{Stands}
use Rattle.journal_merger.proofs.OutFacts.{Written}
use Rattle.journal_merger.proofs.merging.take_all.Given as goal

-- the lines that were taken are a history, whose text was written or is gathered
abbrev pub invariant-loop-lines : goal.invariant-loop-lines
invariant-loop-lines g l =
    (told : List Pair) × (stands : Stands l.fn.world l.fn.journals l.journals l.world told) × (l.lines ≡ stands.count) × IsIndexOf l.numbers l.world.sent
    × Written (g.W.Write.contents l.fn.writer) (g.W.Write.contents l.writer) l.out told

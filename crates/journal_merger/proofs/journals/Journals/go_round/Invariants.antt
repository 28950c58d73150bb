use Rattle.frame_numbers.specs.FrameNumbers.{IsIndexOf}
use Rattle.journal_merger.proofs.journals.Journals.go_round.Given as goal

abbrev pub invariant-loop-journal : goal.invariant-loop-journal
invariant-loop-journal g l = IsIndexOf l.numbers l.world.sent

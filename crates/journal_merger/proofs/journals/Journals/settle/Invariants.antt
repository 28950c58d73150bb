use Rattle.frame_numbers.specs.FrameNumbers.{IsIndexOf}
use Rattle.journal_merger.proofs.journals.Journals.settle.Given as goal

abbrev pub invariant-loop : goal.invariant-loop
invariant-loop g l = IsIndexOf l.numbers l.world.sent

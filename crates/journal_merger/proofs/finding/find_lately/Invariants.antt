use Rattle.std.proofs.Common.{◌≡◌}
use Rattle.frame_numbers.specs.FrameNumbers.{IsIndexOf}
use Rattle.journal_merger.proofs.finding.find_lately.Given as goal

-- the world is as it was
abbrev pub invariant-loop-index : goal.invariant-loop-index
invariant-loop-index g l = (l.world ≡ l.fn.world) × IsIndexOf l.numbers l.world.sent

use Rattle.std.proofs.Common.{◌≡◌}
use Rattle.frame_numbers.specs.FrameNumbers.{IsIndexOf}
use Rattle.frame_numbers.proofs.numbers.FrameNumbers.catch_up.Given as goal

abbrev pub invariant-loop-number : goal.invariant-loop-number
invariant-loop-number g l = (l.self.count ≡ l.number) × (IsIndexOf l.fn.self l.actors.sent → IsIndexOf l.self l.actors.sent)

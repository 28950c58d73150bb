use Rattle.std.proofs.Common.{◌≡◌, ◌++◌, take, drop}
use Rattle.frame_lines.specs.Hmac.{masked}
use Rattle.frame_lines.proofs.secrets.masked.Given as goal

-- the bytes before this place have the mask
abbrev pub invariant-loop-at : goal.invariant-loop-at
invariant-loop-at l = l.out ≡ masked l.mask (take l.at l.block) ++ drop l.at l.block

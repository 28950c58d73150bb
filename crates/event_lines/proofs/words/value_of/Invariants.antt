use Rattle.std.proofs.Common.{◌≡◌, ◌≤◌, take}
use Rattle.std.specs.Str.Parse.{digits_value}
use Rattle.event_lines.proofs.words.value_of.Given as goal

-- the digits so far are the text of the number
abbrev pub invariant-loop-digit : goal.invariant-loop-digit
invariant-loop-digit l = (l.number ≡ digits_value 10 (take l.digit-index l.digits)) × (l.number ≤ l.most)

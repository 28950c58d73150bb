use Rattle.std.proofs.Common.{◌≡◌, ◌++◌, None, length, string_bytes}
use Rattle.service_status.specs.Texts.{lines_from}
use Rattle.service_status.proofs.texts.push_lines.Given as goal

-- what was added, and the lines of the claims that are left, are the lines of all
abbrev pub invariant-loop-left : goal.invariant-loop-left
invariant-loop-left l = string_bytes l.text ++ lines_from l.clients l.before l.left ≡ string_bytes l.fn.text ++ lines_from l.clients None l.claims

abbrev pub decreases-loop-left : goal.decreases-loop-left
decreases-loop-left l = length l.left

use Rattle.std.proofs.Common.{◌≡◌, length}
use Rattle.merge_service.proofs.opening.open_journals.Given as goal

-- a journal was opened for each name so far
abbrev pub invariant-loop-journal : goal.invariant-loop-journal
invariant-loop-journal g l = length l.journals ≡ l.journal

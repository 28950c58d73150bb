use Rattle.std.proofs.Common.{◌≡◌, ◌+◌, ℕ, List, Option, Some, None, length}
use Rattle.std.specs.Borrow.{Bor}
use Rattle.event_lines.specs.Reading.{words_behind}
use Rattle.own_journals.specs.OwnLines.{last_from}
use Rattle.own_journals.proofs.words.last_of.Given as goal

-- the last three words are those of all words
abbrev pub invariant-loop-left : goal.invariant-loop-left
invariant-loop-left l = last_from l.first l.second l.third (words_behind l.left) ≡ last_from l.fn.first l.fn.second l.fn.third (words_behind l.fn.rest)

abbrev size : Option (Bor (List ℕ)) → ℕ
size None = 0
size (Some rest) = length rest.now + 1

abbrev pub decreases-loop-left : goal.decreases-loop-left
decreases-loop-left l = size l.left

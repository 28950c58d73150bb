use Rattle.std.proofs.Common.{◌≡◌, ◌++◌, take}
use Rattle.journal_picture.specs.Histories.{votes_in}
use Rattle.journal_picture.proofs.telling.add_kept.Given as goal

abbrev pub invariant-loop-place : goal.invariant-loop-place
invariant-loop-place l = l.lasting.items ≡ l.fn.lasting.items ++ votes_in l.node (take l.place l.kept.entries)

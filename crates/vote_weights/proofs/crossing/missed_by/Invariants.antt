use Rattle.std.proofs.Common.{◌≡◌, ◌+◌, drop}
use Rattle.vote_weights.specs.ListFaults.{missed_by}
use Rattle.vote_weights.proofs.crossing.missed_by.Given as goal

abbrev pub invariant-loop-i : goal.invariant-loop-i
invariant-loop-i l = missed_by l.ballot (l.place + l.i) (drop l.i l.others) ≡ missed_by l.ballot l.place l.others

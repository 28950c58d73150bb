use Rattle.std.proofs.Common.{◌≡◌, ◌+◌, drop}
use Rattle.vote_weights.specs.ListFaults.{first_missed}
use Rattle.vote_weights.proofs.crossing.first_missed.Given as goal

abbrev pub invariant-loop-i : goal.invariant-loop-i
invariant-loop-i l = first_missed (l.i + 1) (drop l.i l.ballots) ≡ first_missed 1 l.ballots

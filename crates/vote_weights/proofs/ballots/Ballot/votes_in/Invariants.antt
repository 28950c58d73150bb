use Rattle.std.proofs.Common.{◌≡◌, ◌≤◌, ◌*◌}
use Rattle.vote_weights.proofs.VoteFacts.{votes_before}
use Rattle.vote_weights.specs.Sets.{has_node}
use Rattle.vote_weights.proofs.ballots.Ballot.votes_in.Given as goal

abbrev pub invariant-loop-i : goal.invariant-loop-i
invariant-loop-i l = record {
  so_far : l.sum ≡ votes_before l.votes-items (has_node l.fn.set) l.i;
  in_range : l.sum ≤ 255 * l.i;
}

use Rattle.std.proofs.Common.{◌≡◌, ◌≤◌, ◌*◌}
use Rattle.vote_weights.proofs.VoteFacts.{larger_before}
use Rattle.vote_weights.proofs.crossing.larger_votes.Given as goal

abbrev pub invariant-loop-i : goal.invariant-loop-i
invariant-loop-i l = record {
  so_far : l.sum ≡ larger_before l.left l.right l.i;
  in_range : l.sum ≤ 255 * l.i;
}

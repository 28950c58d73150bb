use Rattle.std.proofs.Common.{◌≡◌, ℕ, ◌<◌, max, drop, slice_index_or}
use Rattle.lock_model.specs.Ballots.{Ballot, node_count}
use Rattle.vote_weights.specs.Ballots.{IsBallot}
use Rattle.vote_weights.proofs.lists.nodes_of.Given as goal

abbrev pub invariant-loop-ballot : goal.invariant-loop-ballot
invariant-loop-ballot l = record {
  so_far : max l.nodes (node_count (drop l.ballot-index l.ballots)) ≡ node_count l.ballots;
  ballots : (k : ℕ) (d : Ballot) → k < l.ballot-index → IsBallot (slice_index_or l.ballots k d);
}

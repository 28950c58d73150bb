use Rattle.std.proofs.Common.{ℕ, ◌<◌}
use Rattle.lock_model.specs.Ballots.{IsSharedUnderBoth}
use Rattle.vote_weights.specs.Sets.{has_node}
use Rattle.vote_weights.proofs.ballots.Ballot.node_shared_with.Given as goal

abbrev pub invariant-loop-i : goal.invariant-loop-i
invariant-loop-i l = (n : ℕ) → IsSharedUnderBoth l.self l.fn.other (has_node l.fn.a) (has_node l.fn.b) n → l.i < n

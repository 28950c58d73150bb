use Rattle.std.proofs.Common.{◌≡◌, ℕ, ◌≤◌, ◌<◌, false, ◌&&◌, ◌||◌, not}
use Rattle.vote_weights.specs.Sets.{has_node}
use Rattle.actor_lives.proofs.owing.still_owing.Given as goal

-- of the nodes below the number just those that have to answer are there, and no other
abbrev pub invariant-loop-number : goal.invariant-loop-number
invariant-loop-number g l = record {
  below : (n : ℕ) → 1 ≤ n → n < l.number → has_node l.owing n ≡ ((has_node l.before n || has_node l.asked n) && not (has_node l.released n));
  above : (n : ℕ) → l.number ≤ n → has_node l.owing n ≡ false;
}

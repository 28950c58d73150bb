use Rattle.std.proofs.Common.{◌≡◌, ℕ, ◌≤◌, ◌<◌, false}
use Rattle.vote_weights.specs.Sets.{has_node}
use Rattle.actor_lives.proofs.owing.has_any.Given as goal

-- no node below the number is there
abbrev pub invariant-loop-number : goal.invariant-loop-number
invariant-loop-number l = (n : ℕ) → 1 ≤ n → n < l.number → has_node l.nodes n ≡ false

use Rattle.std.proofs.Common.{◌≡◌, ℕ, ◌≤◌, ◌<◌, true}
use Rattle.vote_weights.specs.Sets.{has_node}
use Rattle.actor_lives.proofs.owing.all_nodes.Given as goal

-- each node below the number is there
abbrev pub invariant-loop-number : goal.invariant-loop-number
invariant-loop-number l = (n : ℕ) → 1 ≤ n → n < l.number → has_node l.all n ≡ true

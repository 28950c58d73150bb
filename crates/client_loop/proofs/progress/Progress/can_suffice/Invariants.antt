use Rattle.std.proofs.Common.{◌≡◌, ℕ, ◌≤◌, ◌<◌}
use Rattle.vote_weights.specs.Sets.{has_node}
use Rattle.client_loop.specs.Nodes.{is_possible}
use Rattle.client_loop.proofs.progress.Progress.can_suffice.Given as goal

-- of the nodes below the number those are taken that are possible, and of the others those that granted
abbrev pub invariant-loop-number : goal.invariant-loop-number
invariant-loop-number l = record {
  below : (n : ℕ) → 1 ≤ n → n < l.number → has_node l.possible n ≡ is_possible l.self.granted l.self.gone n;
  above : (n : ℕ) → l.number ≤ n → has_node l.possible n ≡ has_node l.self.granted n;
}

use Rattle.std.proofs.Common.{◌≡◌, ℕ, ◌||◌}
use Rattle.vote_weights.specs.Sets.{has_node}
use Rattle.client_loop.specs.Nodes.{Skips}
use Rattle.client_loop.specs.Standing.{IsAlike}
use Rattle.client_loop.proofs.NodeFacts.{is_below}
use Rattle.client_loop.proofs.progress.Progress.lose_all.Given as goal

-- the nodes below the number are gone, and skipped
abbrev pub invariant-loop-number : goal.invariant-loop-number
invariant-loop-number l = record {
  gone : (n : ℕ) → has_node l.self.gone n ≡ (is_below l.number n || has_node l.fn.self.gone n);
  skipped : Skips (is_below l.number) l.fn.self.core l.self.core;
  alike : IsAlike l.fn.self.core l.self.core;
  others : l.self ≡ record l.fn.self { core = l.self.core; gone = l.self.gone };
}

use Rattle.std.proofs.Common.{◌≡◌}
use Rattle.client_loop.specs.Nodes.{Skips}
use Rattle.client_loop.specs.Standing.{IsAlike}
use Rattle.client_loop.proofs.NodeFacts.{is_gone_below}
use Rattle.client_loop.proofs.progress.Progress.skip_gone.Given as goal

-- the nodes below the number that are gone are skipped
abbrev pub invariant-loop-number : goal.invariant-loop-number
invariant-loop-number l = record {
  skipped : Skips (is_gone_below l.fn.self.gone l.number) l.fn.self.core l.self.core;
  alike : IsAlike l.fn.self.core l.self.core;
  others : l.self ≡ record l.fn.self { core = l.self.core };
}

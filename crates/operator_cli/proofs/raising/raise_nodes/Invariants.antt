use Rattle.std.proofs.Common.{◌≡◌}
use Rattle.operator_cli.specs.PartOutputs.{rising}
use Rattle.operator_cli.proofs.raising.raise_nodes.Given as goal

abbrev pub invariant-loop-count : goal.invariant-loop-count
invariant-loop-count g l = l.world ≡ rising l.settings l.count 0

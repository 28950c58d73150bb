use Rattle.std.proofs.Common.{◌≡◌}
use Rattle.lock_model.specs.Ballots.{node_count}
use Rattle.operator_cli.specs.PartOutputs.{rising}
use Rattle.operator_cli.proofs.raising.raise_clients.Given as goal

abbrev pub invariant-loop-count : goal.invariant-loop-count
invariant-loop-count g l = l.world ≡ rising l.settings (node_count l.settings.ballots) l.count

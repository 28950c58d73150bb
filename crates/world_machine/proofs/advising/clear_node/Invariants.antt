use Rattle.std.proofs.Common.{◌≡◌, drop}
use Rattle.world_machine.specs.Advising.{first_found, clear_at}
use Rattle.world_machine.proofs.advising.clear_node.Given as goal

abbrev pub invariant-loop-client : goal.invariant-loop-client
invariant-loop-client g l = first_found (clear_at l.want l.node) (drop l.client-index l.clients) ≡ first_found (clear_at l.want l.node) l.clients

use Rattle.std.proofs.Common.{◌≡◌, drop}
use Rattle.vote_weights.specs.Sets.{has_node}
use Rattle.world_machine.specs.Advising.{first_found, clear_node}
use Rattle.world_machine.proofs.advising.clear_move.Given as goal

abbrev pub invariant-loop-node : goal.invariant-loop-node
invariant-loop-node g l = first_found (clear_node (has_node l.chosen) l.want l.clients) (drop l.node-index l.nodes) ≡ first_found (clear_node (has_node l.chosen) l.want l.clients) l.nodes

use Rattle.std.proofs.Common.{◌≡◌, drop}
use Rattle.vote_weights.specs.Sets.{has_node}
use Rattle.world_machine.specs.Advising.{first_found, ask_node}
use Rattle.world_machine.proofs.advising.ask_move.Given as goal

abbrev pub invariant-loop-node : goal.invariant-loop-node
invariant-loop-node g l =
    first_found (ask_node (has_node l.chosen) l.want l.sent l.asked.0 l.asked.1) (drop l.node-index l.nodes)
    ≡ first_found (ask_node (has_node l.chosen) l.want l.sent l.asked.0 l.asked.1) l.nodes

use Rattle.std.proofs.Common.{◌≡◌, drop}
use Rattle.vote_weights.specs.Sets.{has_node}
use Rattle.world_machine.specs.Advising.{first_found, finish_at}
use Rattle.world_machine.proofs.advising.finish_move.Given as goal

abbrev pub invariant-loop-node : goal.invariant-loop-node
invariant-loop-node g l = first_found (finish_at (has_node l.chosen)) (drop l.node-index l.nodes) ≡ first_found (finish_at (has_node l.chosen)) l.nodes

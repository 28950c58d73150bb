use Rattle.std.proofs.Common.{◌≡◌, ℕ, take}
use Rattle.std.specs.List.{list_any}
use Rattle.vote_weights.specs.Sets.{has_node}
use Rattle.world_machine.specs.Advising.{wins}
use Rattle.world_machine.proofs.advising.won.Given as goal

abbrev pub invariant-loop-node : goal.invariant-loop-node
invariant-loop-node g l = (n : ℕ) → has_node l.set n ≡ list_any (wins l.want l.clients n) (take l.node-index l.nodes)

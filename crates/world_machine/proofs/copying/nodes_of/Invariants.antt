use Rattle.std.proofs.Common.{◌≡◌, take}
use Rattle.world_machine.proofs.copying.nodes_of.Given as goal

-- the copies so far are the first nodes
abbrev pub invariant-loop-node : goal.invariant-loop-node
invariant-loop-node g l = l.copies.items ≡ take l.node-index l.nodes

use Rattle.std.proofs.Common.{rules}
use Rattle.world_actors.proofs.nodes.WorldNode.rise_new.Goals.{in-Some-take, in_default-take}
use Rattle.world_actors.proofs.nodes.WorldNode.rise_new.Goals as goal

-- the tried record is the kept one, by which the core has risen
pub invariant_of-self : goal.invariant_of-self
invariant_of-self g c = elim c.match-take.branch [
  | in-Some-take w ↦ search rules
  | in_default-take w ↦ search rules
]

use Rattle.vote_weights.proofs.SetFacts.{has_node-room, IsNodeSet-members}
use Rattle.vote_weights.proofs.sets.NodeSet.has.Goals as goal

pub returns-clause-has : goal.returns-clause-has
returns-clause-has c =
    rw (← c.self.view_is, ← c.get.ensures.number) (has_node-room c.self.inside.room c.get.result c.get.ensures.in_range.0)

pub returns-clause-node_set : goal.returns-clause-node_set
returns-clause-node_set c = rw (← c.self.view_is) (IsNodeSet-members c.self.inside.room c.self.invariant)

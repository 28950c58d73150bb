use Rattle.vote_weights.specs.SetLaws.{has_node-with_node}
use Rattle.vote_weights.proofs.SetFacts.{with_node-room, marks_of-marked, IsNodeSet-members}
use Rattle.std.proofs.Common.{◌-◌, Bool, List, true}
use Rattle.std.proofs.Math.ListN.{set}
use Rattle.vote_weights.proofs.sets.NodeSet.with.Goals as goal

pub invariant_of-result : goal.invariant_of-result
invariant_of-result c = marks_of-marked c.self.inside.room (c.get.result - 1) c.self.invariant

pub returns-clause-exact : goal.returns-clause-exact
returns-clause-exact c =
    rw (← c.self.view_is, ← c.get.ensures.number)
    (with_node-room c.self.inside.room c.get.result c.get.ensures.in_range.0 c.get.ensures.in_range.1 c.self.invariant)

pub returns-clause-members : goal.returns-clause-members
returns-clause-members c =
    λ n. rw (returns-clause-exact c) (has_node-with_node c.args.self c.args.node n)

pub returns-clause-node_set : goal.returns-clause-node_set
returns-clause-node_set c =
    let room : List Bool = set c.self.inside.room (c.get.result - 1) true in
    IsNodeSet-members room (marks_of-marked c.self.inside.room (c.get.result - 1) c.self.invariant)

use Rattle.std.proofs.Common.{arith}
use Rattle.vote_weights.proofs.ListFacts.{node_count-le, length-le-node_count}
use Rattle.vote_weights.proofs.lists.BallotList.nodes.Goals as goal

pub returns-clause-few_nodes : goal.returns-clause-few_nodes
returns-clause-few_nodes c = let few = node_count-le _ c.self.invariant.list.each in omega (arith, few, c.self.invariant.longest)

pub returns-clause-none_longer : goal.returns-clause-none_longer
returns-clause-none_longer c =
    rw (← c.self.view_is, ← c.self.invariant.longest) (length-le-node_count _)

use Rattle.std.proofs.Common.{arith}
use Rattle.lock_model.specs.Ballots.{Ballot}
use Rattle.vote_weights.specs.Ballots.{IsBallot}
use Rattle.vote_weights.proofs.ListFacts.{node_count-drop, IsBallot-more}
use Rattle.vote_weights.proofs.lists.nodes_of.Goals as goal

pub loop-ballot-preserved : goal.loop-ballot-preserved
loop-ballot-preserved c =
    let b : Ballot = c.ballot-item.result in
    let within = c.loop-ballot-test.true in
    let step = node_count-drop c.args.ballots.now c.loop-ballot.ballot-index b within in
    let here = rw (← c.ballot-item.is) at step in
    let is_ballot : IsBallot b = record { some_node = omega arith; few_nodes = omega arith; crosses = c.nodes.ensures.crosses } in
    record {
      so_far = omega (arith, here, c.max-nodes.ensures, c.nodes.ensures.nodes);
      ballots = IsBallot-more c.args.ballots.now c.loop-ballot.ballot-index b within c.ballot-item.is c.loop-ballot.invariant.ballots is_ballot;
    }

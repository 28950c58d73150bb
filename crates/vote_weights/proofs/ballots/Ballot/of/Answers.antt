use Rattle.std.proofs.Common.{rules, arith}
use Rattle.vote_weights.proofs.VoteFacts.{HoldsBallot-room_of, few-from-bytes}
use Rattle.vote_weights.proofs.ballots.Ballot.of.Goals as goal

pub invariant_of-result : goal.invariant_of-result
invariant_of-result c =
    rw c.room_of-room.ensures
    (HoldsBallot-room_of c.args.votes.now c.args.read c.args.write
    (record {
      some_node = search rules;
      few_nodes = omega arith;
      crosses = record { reads_meet_writes = omega arith; writes_meet = omega arith; reads_fit = omega arith; writes_fit = omega arith };
    })
    (few-from-bytes c.args.votes.now c.type_inv.votes))

use Rattle.std.proofs.Common.{◌≡◌, None, arith, rules}
use Rattle.vote_weights.specs.BallotLists.{IsBallotList}
use Rattle.vote_weights.specs.ListFaults.{first_missed}
use Rattle.vote_weights.proofs.ListFacts.{IsBallotList-from, HoldsBallots-room, take-room, none-from-pairs}
use Rattle.vote_weights.proofs.lists.BallotList.of.Goals as goal

pub returns-in-Some-clause-accepted : goal.returns-in-Some-clause-accepted
returns-in-Some-clause-accepted c = λ list.
    let none = none-from-pairs c.args.ballots.now list.cross.each_two in
    let is_some = c.in-Some.is in
    let told = c.first_missed.ensures in
    cc

is_list : (c : goal.After-nodes_of) → IsBallotList c.args.ballots.now
is_list c =
    let none : first_missed 1 c.args.ballots.now ≡ None = cc (c.in_default.is, c.first_missed.ensures) in
    IsBallotList-from c.args.ballots.now (search rules) (omega arith) c.nodes_of.ensures.ballots none

pub invariant_of-result : goal.invariant_of-result
invariant_of-result c =
    rw (c.room_of-room.ensures, c.nodes_of.ensures.nodes) (HoldsBallots-room c.args.ballots.now (is_list c))

pub returns-clause-accepted : goal.returns-clause-accepted
returns-clause-accepted c = (is_list c, rw c.room_of-room.ensures (take-room c.args.ballots.now))

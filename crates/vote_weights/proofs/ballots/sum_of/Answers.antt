use Rattle.std.proofs.Common.{rules, arith}
use Rattle.vote_weights.proofs.VoteFacts.{sum-le-bytes}
use Rattle.vote_weights.proofs.ballots.sum_of.Goals as goal

pub returns-clause-sum : goal.returns-clause-sum
returns-clause-sum c = search rules

pub returns-clause-in_range : goal.returns-clause-in_range
returns-clause-in_range c =
    let e = returns-clause-sum c in
    let r = sum-le-bytes c.args.votes.now c.type_inv.votes c.requires in
    omega (arith, e, r)

use Rattle.std.proofs.Common.{◌≡◌, max, length, refl, arith}
use Rattle.vote_weights.proofs.VoteFacts.{larger_before, larger_before_more}
use Rattle.vote_weights.proofs.crossing.larger_votes.Goals as goal

pub loop-i-init : goal.loop-i-init
unfolding larger_before
loop-i-init c = record { so_far = refl; in_range = omega arith }

pub loop-i-preserved : goal.loop-i-preserved
loop-i-preserved c =
    let step = larger_before_more c.votes-left.result.now c.votes-right.result.now c.loop-i.i in
    let here = c.max.ensures in
    let same_left = c.votes_at.ensures in
    let same_right = c.votes_at-in-loop-i.ensures in
    record { so_far = omega (arith, step, here, same_left, same_right); in_range = omega arith }

pub returns-clause-larger : goal.returns-clause-larger
unfolding larger_before
returns-clause-larger c =
    let all : c.loop-i.i ≡ max (length c.votes-left.result.now) (length c.votes-right.result.now) = omega arith in
    let e = c.loop-i.invariant.so_far in
    rw (all, c.votes-left.ensures.votes, c.votes-right.ensures.votes) at e

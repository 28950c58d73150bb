use Rattle.std.proofs.Common.{◌≡◌, ◌<◌, ℕ, List, true, false, length, get_or, refl, ap, arith}
use Rattle.lock_messages.specs.declared.ids.TheConstants.{MAX_NODES}
use Rattle.vote_weights.proofs.VoteFacts.{votes_before, votes_before_in, votes_before_out}
use Rattle.vote_weights.specs.Sets.{marks_of}
use Rattle.vote_weights.proofs.ballots.Ballot.votes_in.Goals as goal
use Rattle.vote_weights.proofs.ballots.Ballot.votes_in.Goals.{then-marks-i, else-marks-i}

pub loop-i-init : goal.loop-i-init
unfolding votes_before
loop-i-init c = record { so_far = refl; in_range = omega arith }

pub loop-i-preserved : goal.loop-i-preserved
loop-i-preserved c =
    let votes : List ℕ = c.votes-votes-items.result.now in
    let small = c.type_inv.votes-items c.loop-i.i in
    let size = ap length c.votes-votes-items.ensures.votes in
    let node : c.loop-i.i < MAX_NODES = omega (arith, c.votes-votes-items.ensures.ballot.few_nodes) in
    elim c.if-marks-i.branch [
      | then-marks-i w ↦
          let mark : get_or (marks_of c.args.set) c.loop-i.i false ≡ true = cc in
          let step = votes_before_in votes c.args.set c.loop-i.i node mark in
          record { so_far = omega (arith, step); in_range = omega (arith, small) }
      | else-marks-i w ↦
          let mark : get_or (marks_of c.args.set) c.loop-i.i false ≡ false = cc in
          let step = votes_before_out votes c.args.set c.loop-i.i node mark in
          record { so_far = omega (arith, step); in_range = omega arith }
    ]

pub returns-clause-votes : goal.returns-clause-votes
unfolding votes_before
returns-clause-votes c =
    let all : c.loop-i.i ≡ length c.votes-votes-items.result.now = omega arith in
    let e = c.loop-i.invariant.so_far in
    rw (all, c.votes-votes-items.ensures.votes) at e

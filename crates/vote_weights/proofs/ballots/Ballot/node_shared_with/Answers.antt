use Rattle.std.proofs.Common.{◌≡◌, ◌≢◌, ◌<◌, ◌+◌, true, false, length, get_or, ap, arith}
use Rattle.lock_messages.specs.declared.ids.TheConstants.{MAX_NODES}
use Rattle.vote_weights.proofs.VoteFacts.{IsShared-at, IsSharedAt-from}
use Rattle.vote_weights.specs.Sets.{marks_of}
use Rattle.vote_weights.proofs.ballots.Ballot.node_shared_with.Goals as goal
use Rattle.vote_weights.proofs.ballots.Ballot.node_shared_with.Goals.{else-left-i-via-then-left-i+then-right-i+then-votes-gt0+else-theirs-gt0, else-left-i-via-then-left-i+then-right-i+else-votes-gt0, else-left-i-via-then-left-i+else-right-i, else-left-i-via-else-left-i}

pub returns-then-theirs-gt0-clause-shared : goal.returns-then-theirs-gt0-clause-shared
returns-then-theirs-gt0-clause-shared c =
    let size = ap length c.votes-votes-items.ensures.votes in
    let within : c.loop-i.i < length c.args.self.now.votes = omega arith in
    let few : c.loop-i.i < MAX_NODES = omega (arith, c.votes-votes-items.ensures.ballot.few_nodes) in
    let number : c.unwrap.result ≡ c.loop-i.i + 1 = grind (arith, c.unwrap.ensures, c.of.ensures) in
    let in_left : get_or (marks_of c.args.a) c.loop-i.i false ≡ true = cc in
    let in_right : get_or (marks_of c.args.b) c.loop-i.i false ≡ true = cc in
    let has_votes : 0 < get_or c.args.self.now.votes c.loop-i.i 0 = rw c.votes-votes-items.ensures.votes at c.if-votes-gt0.true in
    let theirs = rw c.votes-others.ensures.votes at c.votes_at-theirs.ensures in
    let has_theirs : 0 < get_or c.args.other.now.votes c.loop-i.i 0 = omega (arith, theirs, c.if-theirs-gt0.true) in
    record {
      under_first = IsShared-at c.args.self.now c.args.a c.args.b c.loop-i.i c.unwrap.result number few (record { in_left = in_left; in_right = in_right; has_votes = has_votes });
      under_second = IsShared-at c.args.other.now c.args.a c.args.b c.loop-i.i c.unwrap.result number few (record { in_left = in_left; in_right = in_right; has_votes = has_theirs });
    }

pub loop-i-preserved : goal.loop-i-preserved
loop-i-preserved c = λ n s.
    let low = c.loop-i.invariant n s in
    let size = ap length c.votes-votes-items.ensures.votes in
    let few : c.loop-i.i < MAX_NODES = omega (arith, c.votes-votes-items.ensures.ballot.few_nodes) in
    let other : n ≢ c.loop-i.i + 1 =
    λ e.
    let mine = IsSharedAt-from c.args.self.now c.args.a c.args.b c.loop-i.i n few e s.under_first in
    let theirs = IsSharedAt-from c.args.other.now c.args.a c.args.b c.loop-i.i n few e s.under_second in
    let in_left = mine.in_left in
    let in_right = mine.in_right in
    elim c.else-left-i.branch [
      | else-left-i-via-then-left-i+then-right-i+then-votes-gt0+else-theirs-gt0 w ↦
          let none = rw c.votes-others.ensures.votes at c.votes_at-theirs.ensures in
          omega (arith, none, w.if-theirs-gt0.false, theirs.has_votes)
      | else-left-i-via-then-left-i+then-right-i+else-votes-gt0 w ↦
          let none = rw c.votes-votes-items.ensures.votes at w.if-votes-gt0.false in
          omega (arith, none, mine.has_votes)
      | else-left-i-via-then-left-i+else-right-i w ↦ cc
      | else-left-i-via-else-left-i w ↦ cc
    ] in
    omega arith

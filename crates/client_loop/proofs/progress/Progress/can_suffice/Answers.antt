use Rattle.std.proofs.Common.{◌≡◌, ℕ, Bool, arith, sym}
use Rattle.lock_model.specs.Ballots.{HasNode, ballot_at}
use Rattle.vote_weights.specs.Sets.{has_node}
use Rattle.client_loop.specs.Nodes.{is_possible}
use Rattle.client_loop.proofs.NodeFacts.{enough_alike}
use Rattle.client_loop.proofs.progress.Progress.can_suffice.Goals as goal

pub returns : goal.returns
returns c =
    let found = rw c.ballots.ensures at c.in-Some.ensures in
    let b = ballot_at c.args.self.now.core.ballots c.args.place in
    let wanted : ℕ → Bool = is_possible c.args.self.now.granted c.args.self.now.gone in
    let count = rw found.1 at c.nodes-number-end.ensures.nodes in
    let enough = rw found.1 at c.enough.ensures.enough in
    let same : (n : ℕ) → HasNode b n → has_node c.loop-number.possible n ≡ wanted n = λ n at. c.loop-number.invariant.below n at.0 (omega (arith, at.1, count, c.loop-number-test.false)) in
    (λ t. enough_alike b c.args.mode (has_node c.loop-number.possible) wanted same (enough.0 t), λ h. enough.1 (enough_alike b c.args.mode wanted (has_node c.loop-number.possible) (λ n at. sym (same n at)) h))

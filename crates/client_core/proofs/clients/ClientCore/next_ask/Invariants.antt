use Rattle.std.proofs.Common.{ℕ, ◌≤◌}
use Rattle.lock_model.specs.Ballots.{ballot_at}
use Rattle.client_core.specs.Calls.{IsOpenTo}
use Rattle.client_core.proofs.clients.ClientCore.next_ask.Given as goal

abbrev pub invariant-loop-number : goal.invariant-loop-number
invariant-loop-number l = (m : ℕ) → IsOpenTo (ballot_at l.self.ballots l.place) l.granted l.skipped m → l.number ≤ m

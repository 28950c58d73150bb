use Rattle.std.proofs.Common.{◌≡◌}
use Rattle.lock_session.specs.Guards.{IsHeld, lender_of, session_of}
use Rattle.actor_lives.specs.Serving.{GoesOn}
use Rattle.actor_lives.proofs.serving.stay.Given as goal

-- the session is held, and went on
abbrev pub invariant-loop : goal.invariant-loop
invariant-loop g l = record {
  held : IsHeld l.guard;
  lender : lender_of l.guard ≡ lender_of l.fn.guard;
  on : GoesOn (session_of l.fn.guard) (session_of l.guard);
}

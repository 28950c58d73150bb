-- An attempt after one that was taken back.
use Rattle.std.proofs.Common.{◌≡◌, ◌⊎◌, inl, inr, ℕ, List, [], ◌∷◌, ◌++◌, Option, Some, sym, ap, subst, ◌∙◌}
use Rattle.lock_model.specs.Ballots.{Ballot, HasPlace}
use Rattle.event_recorders.specs.declared.faults.RunFault.{RunFault}
use Rattle.actor_steps.specs.Endings.{falls_of}
use Rattle.actor_steps.proofs.EndFacts.{failures_on}
use Rattle.actor_steps.proofs.SendingFacts.{follows_on}
use Rattle.client_loop.specs.Visits.{Use, visits_of}
use Rattle.client_loop.proofs.BeginFacts.{begins_on}
use Rattle.client_loop.proofs.EndFacts.{client_ends_on}
use Rattle.client_loop.proofs.SentFacts.{unless_on}
use Rattle.lock_session.specs.Sessions.{SessionValue, Attempts, Enters, TakesBack, EndsEntering}
use Rattle.lock_session.proofs.EndFacts.{not_over, how_ended, Entering}

attempts_on : (u : Use) (v m v' : SessionValue) → Attempts u v m → Attempts u m v' → Attempts u v v'
attempts_on u v m v' first then = record {
  same = record { client = then.same.client ∙ first.same.client; ballots = then.same.ballots ∙ first.same.ballots; opening = then.same.opening ∙ first.same.opening };
  begins = begins_on u (visits_of v.log) (visits_of m.log) (visits_of v'.log) first.begins then.begins;
  softened = then.softened ∙ first.softened;
  falls = failures_on (falls_of v.log) (falls_of m.log) (falls_of v'.log) v.failures m.failures v'.failures first.falls then.falls;
}

-- the ballots still have the place
pub placed_still : (u : Use) (nudges place : ℕ) (v m : SessionValue) → HasPlace v.ballots place → TakesBack u nudges v m → HasPlace m.ballots place
placed_still u nudges place v m placed back = subst (λ (b : List Ballot). HasPlace b place) (sym back.attempts.same.ballots) placed

-- it entered
pub enters_then : (u : Use) (nudges : ℕ) (v m v' : SessionValue) → TakesBack u nudges v m → Enters u nudges m v' → Enters u nudges v v'
enters_then u nudges v m v' back then = record {
  on = back.on;
  most = then.most;
  attempts = attempts_on u v m v' back.attempts then.attempts;
  entered = then.entered ∙ ap (λ (uses : List (Option Use)). uses ++ Some u ∷ []) back.entered;
  sent = follows_on v.log m.log v'.log v.given m.given v'.given back.sent then.sent;
}

-- it ended by a fault
pub ends_then : (u : Use) (nudges : ℕ) (f : RunFault) (v m v' : SessionValue) → TakesBack u nudges v m → EndsEntering u nudges f m v' → EndsEntering u nudges f v v'
ends_then u nudges f v m v' back then = record {
  attempts = attempts_on u v m v' back.attempts then.attempts;
  entered = then.entered ∙ back.entered;
  sent = unless_on f v.log m.log v'.log v.given m.given v'.given back.sent then.sent;
  after = then.after;
  ended = not_over v.over f (v' ≡ v) (Entering f (falls_of v.log) v.failures v') back.on (later (how_ended m.over f (v' ≡ m) (Entering f (falls_of m.log) m.failures v') back.rests.on then.ended));
  most = inl (most then.most);
}
  where
    later : Entering f (falls_of m.log) m.failures v' → Entering f (falls_of v.log) v.failures v'
    later ends = (ends.0, client_ends_on f (falls_of v.log) (falls_of m.log) v'.log v'.stuck v'.spent v.failures m.failures v'.failures back.attempts.falls ends.1)

    most : (v'.most ≡ nudges) ⊎ ((v'.most ≡ m.most) × (visits_of v'.log ≡ visits_of m.log)) → v'.most ≡ nudges
    most (inl same) = same
    most (inr still) = still.0 ∙ back.most

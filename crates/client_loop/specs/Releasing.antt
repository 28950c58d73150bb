-- What stands after a client that rests has said its release again.
use Rattle.std.specs.Prelude.{◌≡◌, ℕ, zero, suc, List, []}
use Rattle.client_core.specs.declared.phases.Phase.TheVariants as phase
use Rattle.client_core.specs.Clients.{Client, phase_of}
use Rattle.actor_steps.specs.Endings.{falls_of}
use Rattle.event_recorders.specs.declared.faults.RunFault.{RunFault}
use Rattle.event_recorders.specs.declared.faults.RunFault.TheVariants as fault
use Rattle.event_recorders.specs.OwnLogs.{OwnLog}
use Rattle.client_loop.specs.declared.progress.Progress.{Progress}
use Rattle.client_loop.specs.Endings.{IsPostFault}
use Rattle.client_loop.specs.Remembering.{asked_of, most_of, HasHadLast}
use Rattle.client_loop.specs.Standing.{Stands, IsSameClient}
use Rattle.client_loop.specs.Visits.{visits_of}

-- The nodes that are to hear of the release of this attempt: these, or none if no attempt was made.
abbrev pub told_of : ℕ → List ℕ → List ℕ
told_of zero nodes = []
told_of (suc n) nodes = nodes

-- Of this attempt, if there was one, the release is for these nodes; it may have so many nudges.
pub record AsksAt (attempt : ℕ) (nodes : List ℕ) (nudges : ℕ) (p : Progress) : Type 0 where
  pub asked : asked_of p ≡ told_of attempt nodes
  pub most : most_of p ≡ nudges

-- The client rests, as before: its log has nothing new begun, entered or softened, and it has not fallen.
pub record RestsStill (l l' : OwnLog) (finds : List (List ℕ)) (core : Client) : Type 0 where
  pub client : IsSameClient l l'
  pub stands : Stands l' finds core
  pub idle : phase_of core ≡ phase.Idle
  pub visits : visits_of l' ≡ visits_of l
  pub falls : falls_of l' ≡ falls_of l

-- By this fault taking a post ends, and by 913 only at the last nudge.
pub record EndsWaiting (f : RunFault) (p : Progress) : Type 0 where
  pub which : IsPostFault f
  pub last : f ≡ fault.GaveUp → HasHadLast p

-- The outcomes of the calls of a session, from the value before to the value after.
use Rattle.std.specs.Prelude.{◌≡◌, ◌⊎◌, [], ℕ, Bool, true, List, Option, None, Result, OnOk, OnErr, IfErr}
use Rattle.lock_model.specs.Ballots.{Ballot}
use Rattle.lossy_link.specs.declared.parcels.Sending.{Sending}
use Rattle.client_core.specs.declared.phases.Phase.TheVariants as phase
use Rattle.client_core.specs.Clients.{phase_of}
use Rattle.world_model.specs.Parts.{Part}
use Rattle.event_recorders.specs.declared.faults.RunFault.{RunFault}
use Rattle.actor_steps.specs.Endings.{falls_of, FailuresFollow}
use Rattle.client_loop.specs.Sendings.{sent_of, SentFollows, SentUnlessMemory}
use Rattle.client_loop.specs.Releasing.{told_of}
use Rattle.client_loop.specs.Visits.{visits_of}
use Rattle.lock_session.specs.Sessions.{SessionValue, IsSessionOf, IsResting, StandsAfter, EndsSettling, HasNothingLeft, HasReleased}

-- The session sent what its log says.
abbrev pub Sends : SessionValue → SessionValue → Type 0
Sends v v' = SentFollows v.log v'.log v.given v'.given

-- The same, but the last message of the log may be missing if memory ran out.
abbrev pub SendsUnlessMemory : RunFault → SessionValue → SessionValue → Type 0
SendsUnlessMemory f v v' = SentUnlessMemory f v.log v'.log v.given v'.given

-- The core of the session is outside.
abbrev pub IsOutside : SessionValue → Type 0
IsOutside v = phase_of v.core ≡ phase.Inside → ⊥

-- It is outside now. The exception is a session that was over while it was inside.
abbrev pub IsOutsideUnlessOver : SessionValue → SessionValue → Type 0
IsOutsideUnlessOver v v' = (phase_of v.core ≡ phase.Inside → v.over ≡ None) → IsOutside v'

-- The client began, entered and softened nothing.
abbrev pub HasVisitedNothing : SessionValue → Type 0
HasVisitedNothing v = ((visits_of v.log).begins ≡ []) × ((visits_of v.log).entered ≡ []) × ((visits_of v.log).softened ≡ [])

-- This client rose with these ballots, and rests. Its log was opened in this part, and it sent, began, entered and softened nothing. Since
-- the device of its record had failed so often, it fell no more often than the device failed.
pub record HasRisen (client : ℕ) (ballots : List Ballot) (opening : Part) (failures : ℕ) (given : Option (List Sending)) (v : SessionValue) : Type 0 where
  pub whose : IsSessionOf client ballots opening v
  pub rests : IsResting v
  pub silent : (sent_of v.log ≡ []) × (v.given ≡ given)
  pub visits : HasVisitedNothing v
  pub falls : FailuresFollow 0 (falls_of v.log) failures v.failures

-- The outcome of saying releases. Without a fault the session sent what its log says, and rests. After a fault the last message may be
-- missing if memory ran out, and the session rests or is over.
pub record Saying (r : Result (Unit {0}) RunFault) (v v' : SessionValue) : Type 0 where
  pub sent : OnOk r (Sends v v')
  pub rests : OnOk r (IsResting v')
  pub faulted : IfErr r (λ f. SendsUnlessMemory f v v')
  pub after : IfErr r (λ f. StandsAfter f v')
  pub ended : IfErr r (λ f. EndsSettling f v v')

-- The session was not over. If it was inside or had left, each node that it asked has answered its release or is gone.
pub record HasSettled (v v' : SessionValue) : Type 0 where
  pub on : v.over ≡ None
  pub released : (v.left ≡ true) ⊎ (phase_of v.core ≡ phase.Inside) → HasReleased v'

-- If the session had nothing left to say, the call succeeds and changes nothing.
abbrev pub StaysIfNothingLeft : Result (Unit {0}) RunFault → SessionValue → SessionValue → Type 0
StaysIfNothingLeft r v v' = HasNothingLeft v → OnErr r ⊥ × (v' ≡ v)

-- The session said the release of its last attempt to these nodes, or to none if it made no attempt. Each has answered it or is gone.
pub record HasReleasedLast (nodes : List ℕ) (v v' : SessionValue) : Type 0 where
  pub asked : v'.asked ≡ told_of v.core.attempt nodes
  pub released : HasReleased v'

-- The outcome of leaving without a fault. The session was not over, it sent what its log says, and it rests. If it was held inside, each
-- node that it asked has answered its release or is gone.
pub record LeavesWell (r : Result (Unit {0}) RunFault) (Held : Type 0) (v v' : SessionValue) : Type 0 where
  pub on : OnOk r (v.over ≡ None)
  pub sent : OnOk r (Sends v v')
  pub rests : OnOk r (IsResting v')
  pub released : OnOk r (Held → HasReleased v')

-- A record answers as that of the session: a restart finds the same in it, it is as stuck and as spent, and its device failed as often.
pub record AnswersAs (v : SessionValue) (found : List (List ℕ)) (is_stuck is_spent : Bool) (failed : ℕ) : Type 0 where
  pub finds : found ≡ v.finds
  pub stuck : is_stuck ≡ v.stuck
  pub spent : is_spent ≡ v.spent
  pub failures : failed ≡ v.failures

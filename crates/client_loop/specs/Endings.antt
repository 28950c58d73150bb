-- How a client ends by a fault, as its own log and its record tell.
use Rattle.std.specs.Prelude.{◌≡◌, ◌⊎◌, ℕ, Bool, false, List, None}
use Rattle.lock_messages.specs.declared.ids.TheConstants.{MAX_ATTEMPT}
use Rattle.client_core.specs.declared.phases.Phase.TheVariants as phase
use Rattle.client_core.specs.Clients.{Client, phase_of}
use Rattle.world_model.specs.declared.exact.ExactClientPhase.TheVariants as client
use Rattle.world_model.specs.Parts.{Part, NoPart, NodePart, ClientPart}
use Rattle.event_recorders.specs.declared.faults.RunFault.{RunFault}
use Rattle.event_recorders.specs.declared.faults.RunFault.TheVariants as fault
use Rattle.event_recorders.specs.OwnLogs.{OwnLog, part_now}
use Rattle.actor_steps.specs.Steps.{HasFailed, IsBookFault}
use Rattle.actor_steps.specs.Endings.{HasNotRisen, IsRefusedEvent, IsSpentRecord}
use Rattle.client_loop.specs.Standing.{Stands}

-- the faults of taking a post, and of asking
abbrev pub IsPostFault : RunFault → Type 0
IsPostFault f = (f ≡ fault.GaveUp) ⊎ IsBookFault f

abbrev pub IsAskFault : RunFault → Type 0
IsAskFault f = (f ≡ fault.TooFewNodes) ⊎ IsPostFault f

-- the faults of making an attempt
abbrev pub IsAttemptFault : RunFault → Type 0
IsAttemptFault f = (f ≡ fault.NotReopened) ⊎ ((f ≡ fault.Spent) ⊎ IsBookFault f)

-- the client is up, asks for nothing, is inside nothing and tries to keep nothing
abbrev pub IsOutside : Part → Type 0
IsOutside NoPart = ⊥
IsOutside (NodePart v) = ⊥
IsOutside (ClientPart k) = (k.phase ≡ client.Idle) × (k.tried ≡ None)

-- How asking or releasing ends by a fault: the book refused or memory was; or the client has too few nodes
-- or gave up, and is outside.
abbrev pub EndsAsking : RunFault → OwnLog → Type 0
EndsAsking f l = IsBookFault f ⊎ (((f ≡ fault.TooFewNodes) ⊎ (f ≡ fault.GaveUp)) × IsOutside (part_now l))

-- 916 also: it has kept the last attempt that there may be, and rests
abbrev pub HasSpentAttempts : Part → Type 0
HasSpentAttempts NoPart = ⊥
HasSpentAttempts (NodePart v) = ⊥
HasSpentAttempts (ClientPart k) = (k.phase ≡ client.Idle) × (k.kept ≡ MAX_ATTEMPT)

-- What a client's own log tells of the fault by which it ended, and whether its record is stuck, whether it
-- is spent, and how often its device had failed before and has failed now: as a node's does, but that no
-- attempt may be left either (916), and that a client which has too few nodes (912) or gave up (913) is
-- outside.
abbrev pub ClientEndsBy : RunFault → OwnLog → Bool → Bool → ℕ → ℕ → Type 0
ClientEndsBy fault.NotReopened l stuck spent before now = HasNotRisen l before now
ClientEndsBy fault.Memory l stuck spent before now = Unit {0}
ClientEndsBy fault.Book l stuck spent before now = IsRefusedEvent l stuck
ClientEndsBy fault.Spent l stuck spent before now = IsSpentRecord l spent ⊎ HasSpentAttempts (part_now l)
ClientEndsBy fault.TooFewNodes l stuck spent before now = IsOutside (part_now l)
ClientEndsBy fault.GaveUp l stuck spent before now = IsOutside (part_now l)

-- the same since whatever moment since which the device had failed this often before
pub record ClientEndsFrom (f : RunFault) (times : ℕ) (l : OwnLog) (stuck spent : Bool) (before now : ℕ) : Type 0 where
  pub ends : (start : ℕ) → HasFailed times start before → ClientEndsBy f l stuck spent start now

-- a client that owns its record, which nobody sees afterwards, ends by this fault with some answers of it
pub record ClientEndsSomehow (f : RunFault) (l : OwnLog) : Type 0 where
  pub stuck : Bool
  pub spent : Bool
  pub before : ℕ
  pub now : ℕ
  pub ends : ClientEndsBy f l stuck spent before now

-- the faults that end one attempt, after which the client may make another
abbrev pub EndsOneAttempt : RunFault → Type 0
EndsOneAttempt f = (f ≡ fault.TooFewNodes) ⊎ (f ≡ fault.GaveUp)

-- The client rests by its own log, as its core does, and its record isn't stuck: it may make an attempt.
pub record IsAtRest (l : OwnLog) (finds : List (List ℕ)) (stuck : Bool) (core : Client) : Type 0 where
  pub stands : Stands l finds core
  pub idle : phase_of core ≡ phase.Idle
  pub free : stuck ≡ false

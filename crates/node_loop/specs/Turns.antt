-- What the turns of a node come to, from the moment before to the moment after.
use Rattle.std.specs.Prelude.{ℕ, Bool, List, Option, Result, OnOk, IfErr, IsOk, ◌≡◌}
use Rattle.voter_core.specs.Voters.{Voter}
use Rattle.lossy_link.specs.declared.parcels.Sending.{Sending}
use Rattle.event_recorders.specs.declared.faults.RunFault.{RunFault}
use Rattle.event_recorders.specs.OwnLogs.{OwnLog}
use Rattle.actor_steps.specs.Endings.{falls_of, EndsFrom}
use Rattle.actor_steps.specs.Sendings.{SentFollows}
use Rattle.node_loop.specs.Standing.{StandsIdle, IsNodeFault, GoesOn}
use Rattle.node_loop.specs.Unsent.{SentAsFar}

-- A node at a moment: its core and its own log; what a restart finds of its record, whether that is stuck and spent, and how often
-- its device has failed; and what was given to its link.
pub record Moment : Type 0 where
  pub core : Voter
  pub log : OwnLog
  pub finds : List (List ℕ)
  pub stuck : Bool
  pub spent : Bool
  pub failures : ℕ
  pub given : Option (List Sending)

-- this moment
abbrev pub moment : Voter → OwnLog → List (List ℕ) → Bool → Bool → ℕ → Option (List Sending) → Moment
moment core log finds stuck spent failures given = record { core = core; log = log; finds = finds; stuck = stuck; spent = spent; failures = failures; given = given }

-- However its turns ended, the node went on.
abbrev pub WentOn : Moment → Moment → Type 0
WentOn v v' = GoesOn (falls_of v.log) v.log v'.log v'.finds v.failures v'.failures

-- What was sent is what the log tells.
abbrev pub Sends : Moment → Moment → Type 0
Sends v v' = SentFollows v.log v'.log v.given v'.given

-- The node dropped a post: its core, its log and what was sent are as before.
pub record Drops (r : Result (Unit {0}) RunFault) (v v' : Moment) : Type 0 where
  pub done : IsOk r
  pub core : v'.core ≡ v.core
  pub log : v'.log ≡ v.log
  pub given : v'.given ≡ v.given

-- It took its turns, one, more or none: it is idle, and what was sent is what its log tells.
pub record TakesTurns (v v' : Moment) : Type 0 where
  pub idle : StandsIdle v'.log v'.core v'.finds v'.stuck
  pub sent : Sends v v'

-- Its turns ended by this fault, and its log and its record show the cause. What was sent is what the log tells, as far as such an
-- end lets it.
pub record EndsTurns (f : RunFault) (v v' : Moment) : Type 0 where
  pub which : IsNodeFault f
  pub sent : SentAsFar f v.log v'.log v.given v'.given
  pub cause : EndsFrom f (falls_of v.log) v'.log v'.stuck v'.spent v.failures v'.failures

-- What its turns come to.
pub record Turns (r : Result (Unit {0}) RunFault) (v v' : Moment) : Type 0 where
  pub goes : WentOn v v'
  pub taken : OnOk r (TakesTurns v v')
  pub ended : IfErr r (λ f. EndsTurns f v v')

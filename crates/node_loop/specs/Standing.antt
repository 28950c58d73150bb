-- A node's core beside the node's own log and its record.
use Rattle.std.specs.Prelude.{◌≡◌, ◌≢◌, ℕ, ◌⊎◌, Bool, true, false, List, [], ◌∷◌, Option, Some, None}
use Rattle.lock_messages.specs.declared.ids.Actor.TheVariants as actor
use Rattle.lock_model.specs.declared.problems.Problem.{Problem}
use Rattle.admission_policy.specs.Policies.{problem_number}
use Rattle.stable_record.specs.declared.node_records.NodeRecord.{NodeRecord}
use Rattle.stable_record.specs.Records.{IsNodeRecord, node_record_of}
use Rattle.voter_core.specs.Voters.{Voter, State, Idle, Decided, Stored, record_of, replies_in}
use Rattle.world_model.specs.declared.events.Effect.TheVariants as effect
use Rattle.world_model.specs.declared.events.Event.TheVariants as event
use Rattle.world_model.specs.declared.exact.ExactNodePhase.TheVariants as node
use Rattle.world_model.specs.Openings.{down_node}
use Rattle.world_model.specs.Parts.{Part, NoPart, NodePart, ClientPart}
use Rattle.world_actors.specs.Nodes.{station_in, phase_of}
use Rattle.event_recorders.specs.OwnLogs.{OwnLog, part_now, FindsPart, FindsItsOwn, IsAdded, IsUnused}
use Rattle.lossy_link.specs.declared.parcels.Post.{Post}
use Rattle.event_recorders.specs.declared.faults.RunFault.{RunFault}
use Rattle.event_recorders.specs.declared.faults.RunFault.TheVariants as run
use Rattle.actor_steps.specs.Steps.{IsRiseFault}
use Rattle.actor_steps.specs.Endings.{falls_of, FailuresFollow, EndsFrom}
use Rattle.actor_steps.specs.declared.keeping.Keeping.{Keeping}
use Rattle.actor_steps.specs.declared.keeping.Keeping.TheVariants as keeping

-- the log as it was opened, without its events
abbrev pub as_opened : OwnLog → OwnLog
as_opened l = record l { events = [] }

-- The node is up, with this kept and nothing tried, and about what its core is about; and its record
-- finds just what it has kept.
pub record StandsBy (s : State) (l : OwnLog) (core : Voter) (kept : NodeRecord) (strings : List (List ℕ)) (stuck : Bool) : Type 0 where
  pub actor : l.actor ≡ actor.Node core.node
  pub state : core.state ≡ s
  pub part : part_now l ≡ NodePart (record { kept = station_in kept; tried = None; phase = phase_of (record_of core) s })
  pub good : IsNodeRecord kept
  pub finds : strings ≡ node_record_of kept ∷ []
  pub ready : stuck ≡ false

-- the node is up and about nothing, with just its core's record kept
abbrev pub StandsIdle : OwnLog → Voter → List (List ℕ) → Bool → Type 0
StandsIdle l core strings stuck = StandsBy Idle l core (record_of core) strings stuck

-- The node has taken a message, or another problem: its record changes, and what it has kept is the one
-- before; or its record stays, and the replies may be said.
abbrev pub HasTaken : Bool → OwnLog → Voter → NodeRecord → List (List ℕ) → Bool → Type 0
HasTaken true l core before strings stuck = StandsBy (Decided (replies_in core.state)) l core before strings stuck
HasTaken false l core before strings stuck = StandsBy (Stored (replies_in core.state)) l core (record_of core) strings stuck

-- no problem has this number
abbrev pub IsNoProblem : ℕ → Type 0
IsNoProblem number = (p : Problem) → problem_number p ≢ number

-- The node has logged that it takes this problem, as one event of this kind, and has taken it.
pub record HasSwitched (p : Problem) (changed : Bool) (l l' : OwnLog) (core : Voter) (before : NodeRecord) (strings : List (List ℕ)) (stuck : Bool) : Type 0 where
  pub logged : (told : Bool) × IsAdded l (event.Switch core.node p) (effect.Switched told) l'
  pub taken : HasTaken changed l' core before strings stuck

-- What the node decided is kept, and the replies may be said; or the device failed, and the node has
-- risen again.
abbrev pub HasKept : Keeping → OwnLog → Voter → List (List ℕ) → Bool → Type 0
HasKept keeping.Kept l core strings stuck = StandsBy (Stored (replies_in core.state)) l core (record_of core) strings stuck
HasKept keeping.Failed l core strings stuck = StandsIdle l core strings stuck

-- The node tries to keep what it decided, and a restart finds that or what it had kept before.
pub record FailsToKeep (l : OwnLog) (core : Voter) (before : NodeRecord) (tried : List ℕ) (strings : List (List ℕ)) : Type 0 where
  pub actor : l.actor ≡ actor.Node core.node
  pub part : part_now l ≡ NodePart (record { kept = station_in before; tried = Some (station_in (record_of core)); phase = node.Decided (station_in (record_of core)) (replies_in core.state) })
  pub good : IsNodeRecord before
  pub decided : IsNodeRecord (record_of core)
  pub bytes : tried ≡ node_record_of (record_of core)
  pub found : FindsPart (part_now l) strings

-- The log is unused, and what the node has kept in its opening is this record; a restart finds just that.
pub record IsReady (l : OwnLog) (n : ℕ) (kept : NodeRecord) (strings : List (List ℕ)) : Type 0 where
  pub unused : IsUnused l (actor.Node n)
  pub opening : l.opening ≡ NodePart (down_node (station_in kept))
  pub good : IsNodeRecord kept
  pub finds : strings ≡ node_record_of kept ∷ []

-- The node's core and its log are as before.
pub record IsUnchanged (v v' : Voter) (l l' : OwnLog) : Type 0 where
  pub core : v' ≡ v
  pub log : l' ≡ l

-- The node stays up: its log goes on from the same opening and shows no new fall. A restart finds in the record nothing but what the
-- node has kept and what it tries to keep.
pub record StaysUp (l l' : OwnLog) (strings : List (List ℕ)) : Type 0 where
  pub opened : as_opened l' ≡ as_opened l
  pub falls : falls_of l' ≡ falls_of l
  pub own : FindsItsOwn (part_now l') strings

-- The node goes on, up or down: its log goes on from the same opening. A restart finds in the record nothing but what the node has kept
-- and what it tries to keep. If the record's device had failed this often before, since any moment, it has failed now for each fall
-- since that moment.
pub record GoesOn (failed : ℕ) (l l' : OwnLog) (strings : List (List ℕ)) (before now : ℕ) : Type 0 where
  pub opened : as_opened l' ≡ as_opened l
  pub falls : FailuresFollow failed (falls_of l') before now
  pub own : FindsItsOwn (part_now l') strings

-- The node is up and about nothing, with nothing tried: all that it took since it last rose it has answered.
abbrev pub IsIdleNode : Part → Type 0
IsIdleNode NoPart = ⊥
IsIdleNode (NodePart v) = (v.phase ≡ node.Idle) × (v.tried ≡ None)
IsIdleNode (ClientPart k) = ⊥

-- the faults by which a node ends: 911, 914, 915 and 916
abbrev pub IsNodeFault : RunFault → Type 0
IsNodeFault f = (f ≡ run.Spent) ⊎ IsRiseFault f

-- It ends by one of these faults, and its log and its record show the cause.
pub record EndsWithCause (f : RunFault) (failed : ℕ) (l : OwnLog) (stuck spent : Bool) (before now : ℕ) : Type 0 where
  pub which : IsNodeFault f
  pub cause : EndsFrom f failed l stuck spent before now

-- where it is known what a link brings, it brings nothing more
abbrev pub IsAtEnd : Option (List Post) → Type 0
IsAtEnd None = Unit {0}
IsAtEnd (Some posts) = posts ≡ []

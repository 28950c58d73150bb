-- A session, as contracts see it.
use Rattle.std.specs.Prelude.{◌≡◌, ◌⊎◌, ◌-◌, ◌++◌, ◌∷◌, [], ℕ, Bool, true, false, List, Option, None, Some}
use Rattle.lock_messages.specs.declared.ids.Actor.TheVariants as actor
use Rattle.lock_messages.specs.declared.tickets.Mode.{Mode}
use Rattle.lock_messages.specs.declared.tickets.Ticket.{Ticket}
use Rattle.lock_model.specs.Ballots.{Ballot}
use Rattle.lossy_link.specs.declared.parcels.Sending.{Sending}
use Rattle.client_core.specs.declared.phases.Phase.TheVariants as phase
use Rattle.client_core.specs.Calls.{left as core_left}
use Rattle.client_core.specs.Clients.{Client, phase_of, ticket_of, softened_ticket}
use Rattle.world_model.specs.Parts.{Part}
use Rattle.world_model.specs.Staying.{inside_ticket}
use Rattle.event_recorders.specs.declared.faults.RunFault.{RunFault}
use Rattle.event_recorders.specs.declared.faults.RunFault.TheVariants as fault
use Rattle.event_recorders.specs.OwnLogs.{OwnLog, part_now, FindsItsOwn}
use Rattle.actor_steps.specs.Steps.{IsBookFault}
use Rattle.actor_steps.specs.Endings.{falls_of, FailuresFollow}
use Rattle.client_loop.specs.declared.progress.Progress.{Progress}
use Rattle.client_loop.specs.Remembering.{core_of, granted_of, asked_of, released_of, gone_of, busy_of, nudges_of, most_of, IsLast}
use Rattle.client_loop.specs.Sendings.{SentFollows, SentUnlessMemory, TellsSoftened}
use Rattle.client_loop.specs.Standing.{Stands, HasLeft}
use Rattle.client_loop.specs.Endings.{ClientEndsFrom, EndsAsking, IsPostFault, IsAtRest}
use Rattle.client_loop.specs.Nodes.{IsReleased}
use Rattle.client_loop.specs.Releasing.{told_of}
use Rattle.client_loop.specs.Visits.{Use, AsksFor, BeginsOnly, BeginsMore, visits_of, visits_softening}
use Rattle.lock_session.specs.declared.crowds.TheConstants.{LOCKS_IN_TURN}
use Rattle.lock_session.specs.declared.faults.TryFault.{TryFault}
use Rattle.lock_session.specs.declared.faults.TryFault.TheVariants as trying

-- The client and its ballots; its core; the nodes whose vote was counted in the present attempt, those to which
-- something was sent in it, those that answered its release, and those that are gone; whether a node let it wait;
-- how many nudges it had, and how many it may have; the client's own log; what a restart finds of its record, whether
-- that is stuck and spent, and how often its device has failed; what was given to its link; whether it has left and
-- its log has yet to say so; and the fault by which it is over, if it is.
pub record SessionValue : Type 0 where
  pub client : ℕ
  pub ballots : List Ballot
  pub core : Client
  pub granted : List ℕ
  pub asked : List ℕ
  pub released : List ℕ
  pub gone : List ℕ
  pub busy : Bool
  pub nudges : ℕ
  pub most : ℕ
  pub log : OwnLog
  pub finds : List (List ℕ)
  pub stuck : Bool
  pub spent : Bool
  pub failures : ℕ
  pub given : Option (List Sending)
  pub left : Bool
  pub over : Option RunFault

-- a session of these parts
abbrev pub session_of_parts : ℕ → List Ballot → Progress → OwnLog → List (List ℕ) → Bool → Bool → ℕ → Option (List Sending) → Bool → Option RunFault → SessionValue
session_of_parts client ballots p log finds stuck spent failures given left over = record {
  client = client;
  ballots = ballots;
  core = core_of p;
  granted = granted_of p;
  asked = asked_of p;
  released = released_of p;
  gone = gone_of p;
  busy = busy_of p;
  nudges = nudges_of p;
  most = most_of p;
  log = log;
  finds = finds;
  stuck = stuck;
  spent = spent;
  failures = failures;
  given = given;
  left = left;
  over = over;
}

-- The core stands for what the own log tells: the client rests, or is inside.
pub record MayGoOn (l : OwnLog) (finds : List (List ℕ)) (stuck : Bool) (core : Client) : Type 0 where
  pub stands : Stands l finds core
  pub still : (phase_of core ≡ phase.Idle) ⊎ (phase_of core ≡ phase.Inside)
  pub free : stuck ≡ false

-- The core has left, and the own log has the client inside still.
pub record HasYetToLeave (l : OwnLog) (finds : List (List ℕ)) (stuck : Bool) (core : Client) : Type 0 where
  pub left : HasLeft l finds core
  pub free : stuck ≡ false

-- the fault by which a session is over, where it is one that ends more than an attempt
abbrev pub over_by : RunFault → Option RunFault
over_by fault.TooFewNodes = None
over_by fault.GaveUp = None
over_by fault.NotReopened = Some fault.NotReopened
over_by fault.Memory = Some fault.Memory
over_by fault.Book = Some fault.Book
over_by fault.Spent = Some fault.Spent

-- what holds of a session, by whether it is over, and has left: it is over by no fault that ends an attempt alone
abbrev pub GoesOn : Option RunFault → Bool → OwnLog → List (List ℕ) → Bool → Client → Type 0
GoesOn (Some f) left l finds stuck core = over_by f ≡ Some f
GoesOn None true l finds stuck core = HasYetToLeave l finds stuck core
GoesOn None false l finds stuck core = MayGoOn l finds stuck core

-- What holds of each session: its log is its client's, with its ballots; and a restart finds in its record nothing but
-- what the client has kept and what it tries to keep.
pub record IsSession (v : SessionValue) : Type 0 where
  pub actor : v.log.actor ≡ actor.Client v.client
  pub ballots : v.log.ballots ≡ v.ballots
  pub own : FindsItsOwn (part_now v.log) v.finds
  pub goes_on : GoesOn v.over v.left v.log v.finds v.stuck v.core

-- of this client, with these ballots, and with a log that was opened in this part
pub record IsSessionOf (c : ℕ) (b : List Ballot) (p : Part) (v : SessionValue) : Type 0 where
  pub client : v.client ≡ c
  pub ballots : v.ballots ≡ b
  pub opening : v.log.opening ≡ p

-- of the same client, with the same ballots, and opened in the same part
abbrev pub IsSameSession : SessionValue → SessionValue → Type 0
IsSameSession v v' = IsSessionOf v.client v.ballots v.log.opening v'

-- The session goes on, and rests: its own log has the client outside, and says nothing more.
pub record IsResting (v : SessionValue) : Type 0 where
  pub on : v.over ≡ None
  pub settled : v.left ≡ false
  pub rests : IsAtRest v.log v.finds v.stuck v.core

-- The session's own log has the client inside with this ticket, and so has its core.
pub record IsInside (v : SessionValue) (t : Ticket) : Type 0 where
  pub settled : v.left ≡ false
  pub stands : Stands v.log v.finds v.core
  pub inside : phase_of v.core ≡ phase.Inside
  pub ticket : ticket_of v.core ≡ Some t
  pub logged : inside_ticket (part_now v.log) ≡ Some t

-- What stands after a fault: after one that ends an attempt alone the session rests, after any other it is over.
abbrev pub StandsAfter : RunFault → SessionValue → Type 0
StandsAfter fault.TooFewNodes v = IsResting v
StandsAfter fault.GaveUp v = IsResting v
StandsAfter fault.NotReopened v = v.over ≡ Some fault.NotReopened
StandsAfter fault.Memory v = v.over ≡ Some fault.Memory
StandsAfter fault.Book v = v.over ≡ Some fault.Book
StandsAfter fault.Spent v = v.over ≡ Some fault.Spent

-- How a call ended by a fault, by that of which the session was over before: where it was, the fault is the same, and
-- the first holds; else the second.
abbrev pub UnlessOver : Option RunFault → RunFault → Type 0 → Type 0 → Type 0
UnlessOver (Some g) f Still Ended = (f ≡ g) × Still
UnlessOver None f Still Ended = Ended

-- by 913 a call ends only where the present attempt had its last nudge
abbrev pub GivesUpAtLast : RunFault → SessionValue → Type 0
GivesUpAtLast f v = f ≡ fault.GaveUp → IsLast v.most v.nudges

-- Leaving ended by this fault: the client had its last nudge, and is outside; memory was refused, or the book did.
-- Its record has left no failure behind.
pub record EndsLeaving (f : RunFault) (v : SessionValue) : Type 0 where
  pub which : IsPostFault f
  pub log : EndsAsking f v.log
  pub last : GivesUpAtLast f v
  pub free : v.stuck ≡ false

-- Why a call ended: the session was over before, and nothing has changed; or its log and its record tell the cause.
abbrev pub EndsBy : RunFault → SessionValue → SessionValue → Type 0
EndsBy f v v' = UnlessOver v.over f (v' ≡ v) (GivesUpAtLast f v' × ClientEndsFrom f (falls_of v.log) v'.log v'.stuck v'.spent v.failures v'.failures)

-- what the session did on its way, for this use: it began none but this, softened nothing, and fell no more often
-- than its record's device failed
pub record Attempts (u : Use) (v v' : SessionValue) : Type 0 where
  pub same : IsSameSession v v'
  pub begins : BeginsOnly u (visits_of v.log) (visits_of v'.log)
  pub softened : (visits_of v'.log).softened ≡ (visits_of v.log).softened
  pub falls : FailuresFollow (falls_of v.log) (falls_of v'.log) v.failures v'.failures

-- The session was not over. This use was entered, once, with so many nudges for its attempt; and what was sent is
-- what the log tells.
pub record Enters (u : Use) (nudges : ℕ) (v v' : SessionValue) : Type 0 where
  pub on : v.over ≡ None
  pub most : v'.most ≡ nudges
  pub attempts : Attempts u v v'
  pub entered : (visits_of v'.log).entered ≡ (visits_of v.log).entered ++ Some u ∷ []
  pub sent : SentFollows v.log v'.log v.given v'.given

-- each node to which something was sent in the present attempt has answered its release, or is gone
abbrev pub HasReleased : SessionValue → Type 0
HasReleased v = IsReleased v.core.ballots v.asked v.released v.gone

-- neither is the session over, nor is it inside, nor has it anything left to say
pub record HasNothingLeft (v : SessionValue) : Type 0 where
  pub on : v.over ≡ None
  pub settled : v.left ≡ false
  pub outside : phase_of v.core ≡ phase.Inside → ⊥

-- These nodes were asked, or none if no attempt was made, and each that was asked has answered the release or is gone.
-- The attempt is this one, if the session had nothing left to say. The session rests.
pub record HasReleasedAt (nodes : List ℕ) (v v' : SessionValue) : Type 0 where
  pub attempt : ℕ
  pub asked : v'.asked ≡ told_of attempt nodes
  pub same : HasNothingLeft v → attempt ≡ v.core.attempt
  pub released : HasReleased v'
  pub rests : IsResting v'

-- The session was not over. An attempt was made for this use, with so many nudges, a node let it wait, nothing was
-- entered, each node that was asked has answered the release or is gone, and the session rests.
pub record TakesBack (u : Use) (nudges : ℕ) (v v' : SessionValue) : Type 0 where
  pub on : v.over ≡ None
  pub most : v'.most ≡ nudges
  pub attempts : Attempts u v v'
  pub begun : (visits_of v'.log).begun ≡ Some u
  pub more : BeginsMore (visits_of v.log) (visits_of v'.log)
  pub let_wait : v'.busy ≡ true
  pub released : HasReleased v'
  pub entered : (visits_of v'.log).entered ≡ (visits_of v.log).entered
  pub sent : SentFollows v.log v'.log v.given v'.given
  pub rests : IsResting v'

-- Nothing was entered, and the call ended by this fault: in an attempt with so many nudges, or before it was begun.
pub record EndsEntering (u : Use) (nudges : ℕ) (f : RunFault) (v v' : SessionValue) : Type 0 where
  pub attempts : Attempts u v v'
  pub entered : (visits_of v'.log).entered ≡ (visits_of v.log).entered
  pub sent : SentUnlessMemory f v.log v'.log v.given v'.given
  pub after : StandsAfter f v'
  pub ended : EndsBy f v v'
  pub most : (v'.most ≡ nudges) ⊎ ((v'.most ≡ v.most) × (visits_of v'.log ≡ visits_of v.log))

-- a use, by its parts
abbrev pub use_by : Mode → List ℕ → ℕ → Use
use_by mode resource place = record { mode = mode; resource = resource; place = place }

-- The core has left, where it was inside; the own log has yet to say so. Nothing else has changed.
pub record GoesOut (v v' : SessionValue) : Type 0 where
  pub others : v' ≡ record v { core = v'.core; left = v'.left }
  pub outside : phase_of v'.core ≡ phase.Inside → ⊥
  pub left : phase_of v.core ≡ phase.Inside → (v'.core ≡ core_left v.core) × (v'.left ≡ true)
  pub kept : (phase_of v.core ≡ phase.Inside → ⊥) → v' ≡ v

-- Why settling ended: the session was over before, and nothing has changed; or leaving ended so.
abbrev pub EndsSettling : RunFault → SessionValue → SessionValue → Type 0
EndsSettling f v v' = UnlessOver v.over f (v' ≡ v) (EndsLeaving f v')

-- Why a guard's leaving ended: the session was over before, and its core has left, but nothing else has changed; or
-- leaving ended so.
abbrev pub EndsGuard : RunFault → SessionValue → SessionValue → Type 0
EndsGuard f v v' = UnlessOver v.over f (GoesOut v v') (EndsLeaving f v')

-- Its log has nothing new begun, entered or softened, and the client has not fallen, nor its device failed.
pub record Settles (v v' : SessionValue) : Type 0 where
  pub same : IsSameSession v v'
  pub visits : visits_of v'.log ≡ visits_of v.log
  pub falls : falls_of v'.log ≡ falls_of v.log
  pub failures : v'.failures ≡ v.failures
  pub most : v'.most ≡ v.most

-- The same, with as many nudges as its caller says.
pub record Releases (v v' : SessionValue) : Type 0 where
  pub same : IsSameSession v v'
  pub visits : visits_of v'.log ≡ visits_of v.log
  pub falls : falls_of v'.log ≡ falls_of v.log
  pub failures : v'.failures ≡ v.failures

-- The session's own log has the client inside, with a ticket for this use.
pub record IsInsideFor (u : Use) (v : SessionValue) : Type 0 where
  pub ticket : Ticket
  pub inside : IsInside v ticket
  pub asked : AsksFor u ticket

-- The session softened: its log has one Soften more, of the use that was begun last, and each node whose vote was
-- counted was told so, once. The attempt may have as many nudges as before.
pub record Softens (v v' : SessionValue) : Type 0 where
  pub same : IsSameSession v v'
  pub visits : visits_of v'.log ≡ visits_softening (visits_of v.log)
  pub most : v'.most ≡ v.most
  pub told : TellsSoftened v.core v.granted v.log v'.log
  pub sent : SentFollows v.log v'.log v.given v'.given

-- softening failed, by want of memory or by the book, before its Soften was logged or after that
pub record FailsToSoften (f : RunFault) (v v' : SessionValue) : Type 0 where
  pub cause : IsBookFault f
  pub most : v'.most ≡ v.most
  pub over : v'.over ≡ Some f
  pub same : IsSameSession v v'
  pub visits : (visits_of v'.log ≡ visits_of v.log) ⊎ (visits_of v'.log ≡ visits_softening (visits_of v.log))
  pub sent : SentUnlessMemory f v.log v'.log v.given v'.given

-- Why softening ended: the session was over before, and nothing has changed; or it failed.
abbrev pub EndsSoftening : RunFault → SessionValue → SessionValue → Type 0
EndsSoftening f v v' = UnlessOver v.over f (v' ≡ v) (FailsToSoften f v v')

-- the ticket with which a client is inside still: the same, or that as a reader's
pub record IsInsideStill (t : Ticket) (v : SessionValue) : Type 0 where
  pub ticket : Ticket
  pub inside : IsInside v ticket
  pub same : (ticket ≡ t) ⊎ (ticket ≡ softened_ticket t)

-- Why nothing was entered that isn't to wait: a node let it, and it was taken back; or it ended as entering does.
abbrev pub EndsTrying : Use → ℕ → TryFault → SessionValue → SessionValue → Type 0
EndsTrying u nudges trying.Busy v v' = TakesBack u nudges v v'
EndsTrying u nudges (trying.Ended f) v v' = EndsEntering u nudges f v v'

-- It asked several nodes at once for this use, and took that back since one of them let it wait: it asks one node after another for
-- its next locks.
pub record NotesCrowd (u : Use) (nudges : ℕ) (v : SessionValue) (before now : ℕ) : Type 0 where
  pub between : SessionValue
  pub alone : before ≡ 0
  pub let_wait : TakesBack u nudges v between
  pub in_turn : now ≡ LOCKS_IN_TURN

-- What it notes of a lock for this use, by the number of locks for which it asks one node after another: a crowd, or one lock less.
abbrev pub Notes : Use → ℕ → SessionValue → ℕ → ℕ → Type 0
Notes u nudges v before now = NotesCrowd u nudges v before now ⊎ (now ≡ before - 1)

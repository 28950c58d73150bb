-- A client's core as a client of the exact world.
use Rattle.std.specs.Prelude.{◌≡◌, ℕ, ◌+◌, ◌≤◌, List, Some, None}
use Rattle.lock_messages.specs.declared.ids.Actor.TheVariants as actor
use Rattle.lock_messages.specs.declared.ids.TheConstants.{MAX_ATTEMPT}
use Rattle.lock_messages.specs.declared.tickets.Ticket.{Ticket}
use Rattle.client_core.specs.declared.phases.State.TheVariants.{Chosen}
use Rattle.client_core.specs.Clients.{Client, phase_in, ticket_in}
use Rattle.client_core.specs.Calls.{MayLeave, left}
use Rattle.world_model.specs.declared.exact.ExactClient.{ExactClient}
use Rattle.world_model.specs.declared.exact.ExactClientPhase.TheVariants as client
use Rattle.world_model.specs.Parts.{Part, NoPart, NodePart, ClientPart}
use Rattle.world_actors.specs.Clients.{phase_of}
use Rattle.event_recorders.specs.OwnLogs.{OwnLog, part_now, FindsPart}

-- the part of the world that the core stands for: its attempt is kept, and nothing is tried
abbrev pub part_of : Client → ExactClient
part_of core = record { kept = core.attempt; tried = None; phase = phase_of core.state }

-- The client's own log leaves it with the part that its core stands for, and its record finds what it
-- keeps.
pub record Stands (l : OwnLog) (finds : List (List ℕ)) (core : Client) : Type 0 where
  pub actor : l.actor ≡ actor.Client core.client
  pub ballots : l.ballots ≡ core.ballots
  pub part : part_now l ≡ ClientPart (part_of core)
  pub found : FindsPart (ClientPart (part_of core)) finds

-- the two logs are of one client, opened with the same ballots and the same part
pub record IsSameClient (l l' : OwnLog) : Type 0 where
  pub actor : l'.actor ≡ l.actor
  pub ballots : l'.ballots ≡ l.ballots
  pub opening : l'.opening ≡ l.opening

-- the two cores stand for one part of the world: they differ in what they skip alone
pub record IsAlike (before after : Client) : Type 0 where
  pub client : after.client ≡ before.client
  pub ballots : after.ballots ≡ before.ballots
  pub part : part_of after ≡ part_of before
  pub phase : phase_in after.state ≡ phase_in before.state
  pub ticket : ticket_in after.state ≡ ticket_in before.state

-- The core has left, and the log has the client asking or inside still, in the same attempt.
pub record HasLeft (l : OwnLog) (finds : List (List ℕ)) (core : Client) : Type 0 where
  pub before : Client
  pub stands : Stands l finds before
  pub may : MayLeave before
  pub after : core ≡ left before

-- The core has chosen its next attempt with this ticket and place, the log has begun it, and the record finds the
-- attempt before.
pub record HasChosen (l : OwnLog) (finds : List (List ℕ)) (core : Client) : Type 0 where
  pub before : ℕ
  pub ticket : Ticket
  pub place : ℕ
  pub actor : l.actor ≡ actor.Client core.client
  pub ballots : l.ballots ≡ core.ballots
  pub state : core.state ≡ Chosen ticket place
  pub next : core.attempt ≡ before + 1
  pub own : ticket.attempt ≡ core.attempt
  pub part : part_now l ≡ ClientPart (record { kept = before; tried = None; phase = client.Chosen ticket place })
  pub found : FindsPart (part_now l) finds

-- The log has it also that this attempt is tried; the record finds it or the attempt before.
pub record HasTried (l : OwnLog) (finds : List (List ℕ)) (core : Client) : Type 0 where
  pub before : ℕ
  pub ticket : Ticket
  pub place : ℕ
  pub actor : l.actor ≡ actor.Client core.client
  pub ballots : l.ballots ≡ core.ballots
  pub next : core.attempt ≡ before + 1
  pub part : part_now l ≡ ClientPart (record { kept = before; tried = Some core.attempt; phase = client.Chosen ticket place })
  pub found : FindsPart (part_now l) finds

-- a client's part, whose attempt is one that there may be
abbrev pub KeepsAttempt : Part → Type 0
KeepsAttempt NoPart = ⊥
KeepsAttempt (NodePart v) = ⊥
KeepsAttempt (ClientPart k) = k.kept ≤ MAX_ATTEMPT

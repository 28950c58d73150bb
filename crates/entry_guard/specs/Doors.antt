-- What a door is, and what entering, softening and leaving make of a client core.
use Rattle.std.specs.Prelude.{◌≡◌, Bool, true, false, Option, None, Some}
use Rattle.lock_messages.specs.declared.tickets.Mode.TheVariants.{Write}
use Rattle.lock_messages.specs.declared.tickets.Ticket.{Ticket}
use Rattle.client_core.specs.Clients.{Client, phase_of}
use Rattle.client_core.specs.Calls.{softened, SoftensAll, left, ReleasesAll}
use Rattle.client_core.specs.declared.phases.Phase.TheVariants as phase
use Rattle.client_core.specs.declared.phases.State.{State}
use Rattle.client_core.specs.declared.phases.State.TheVariants.{Idle, Chosen, Asking, Inside}

-- a ticket is there, and it is a writer's
abbrev pub IsWriters : Option Ticket → Type 0
IsWriters None = ⊥
IsWriters (Some t) = t.mode ≡ Write

-- a door may soften where it is inside with a writer's ticket
pub record MaySoften (within : Bool) (held : Option Ticket) : Type 0 where
  pub inside : within ≡ true
  pub writer : IsWriters held

-- a door is inside with this ticket
pub record IsInsideWith (t : Ticket) (within : Bool) (held : Option Ticket) : Type 0 where
  pub inside : within ≡ true
  pub ticket : held ≡ Some t

-- whether a client in this state is inside
abbrev pub is_inside_in : State → Bool
is_inside_in Idle = false
is_inside_in (Chosen t place) = false
is_inside_in (Asking p) = false
is_inside_in (Inside p) = true

abbrev pub is_client_inside : Client → Bool
is_client_inside c = is_inside_in c.state

-- a client that softened: it is inside with the same votes, and tells each node of its ballots that the
-- attempt is softened
pub record ClientSoftens (before after : Client) : Type 0 where
  pub exact : after ≡ softened before
  pub inside : phase_of after ≡ phase.Inside
  pub tells : SoftensAll after before.attempt

-- a client that left: it is idle after the same attempt, and tells each node of its ballot that the
-- attempt is over
pub record ClientLeaves (before after : Client) : Type 0 where
  pub exact : after ≡ left before
  pub idle : phase_of after ≡ phase.Idle
  pub same_attempt : after.attempt ≡ before.attempt
  pub releases : ReleasesAll after before.attempt

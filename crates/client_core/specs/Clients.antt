-- What a client is between two calls, in words that the calls share.
use Rattle.std.specs.Prelude.{◌≡◌, ℕ, ◌≤◌, true, false, List, [], Option, Some, None, if◌then◌else◌}
use Rattle.lock_messages.specs.declared.ids.TheConstants.{MAX_ATTEMPT}
use Rattle.lock_messages.specs.declared.tickets.Mode.TheVariants.{Read, Write}
use Rattle.lock_messages.specs.declared.tickets.Ticket.{Ticket}
use Rattle.lock_model.specs.Ballots.{Ballot, HasAnyNode, HasPlace, IsEnough, ballot_at}
use Rattle.vote_weights.specs.Sets.{has_node}
use Rattle.client_core.specs.declared.phases.Phase.{Phase}
use Rattle.client_core.specs.declared.phases.Phase.TheVariants as phase
use Rattle.client_core.specs.declared.phases.Present.{Present}
use Rattle.client_core.specs.declared.phases.State.{State}
use Rattle.client_core.specs.declared.phases.State.TheVariants.{Idle, Chosen, Asking, Inside}

-- Its number, the ballots of its list in order, the number of its latest attempt (0 for none), and what
-- it does: nothing, or with a chosen ticket and place, or asking or being inside with what it has of its
-- present attempt: the ticket that it asked with, the place of the ballot by which its votes count, the nodes
-- whose Grant was counted and those that were skipped, each in ascending order, and whether it has softened.
pub record Client : Type 0 where
  pub client : ℕ
  pub ballots : List Ballot
  pub attempt : ℕ
  pub state : State

-- the client with these
abbrev pub client_of : ℕ → List Ballot → ℕ → State → Client
client_of client ballots attempt state = record { client = client; ballots = ballots; attempt = attempt; state = state }

-- the phase
abbrev pub phase_in : State → Phase
phase_in Idle = phase.Idle
phase_in (Chosen t place) = phase.Chosen
phase_in (Asking p) = phase.Asking
phase_in (Inside p) = phase.Inside

abbrev pub phase_of : Client → Phase
phase_of c = phase_in c.state

-- the ticket as a reader's
abbrev pub softened_ticket : Ticket → Ticket
softened_ticket t = record { client = t.client; attempt = t.attempt; mode = Read; resource = t.resource }

-- the ticket of a present attempt: the one that was asked with, and once it is softened that as a reader's
abbrev pub present_ticket : Present → Ticket
present_ticket p = if p.softened then softened_ticket p.ticket else p.ticket

-- the present ticket
abbrev pub ticket_in : State → Option Ticket
ticket_in Idle = None
ticket_in (Chosen t place) = Some t
ticket_in (Asking p) = Some (present_ticket p)
ticket_in (Inside p) = Some (present_ticket p)

abbrev pub ticket_of : Client → Option Ticket
ticket_of c = ticket_in c.state

-- the place of the ballot by which the present attempt counts its votes
abbrev pub place_in : State → Option ℕ
place_in Idle = None
place_in (Chosen t place) = Some place
place_in (Asking p) = Some p.place
place_in (Inside p) = Some p.place

abbrev pub place_of : Client → Option ℕ
place_of c = place_in c.state

-- the nodes whose Grant of the present ticket was counted
abbrev pub granted_in : State → List ℕ
granted_in Idle = []
granted_in (Chosen t place) = []
granted_in (Asking p) = p.granted
granted_in (Inside p) = p.granted

abbrev pub granted_of : Client → List ℕ
granted_of c = granted_in c.state

-- the nodes that were skipped in the present attempt
abbrev pub skipped_in : State → List ℕ
skipped_in Idle = []
skipped_in (Chosen t place) = []
skipped_in (Asking p) = p.skipped
skipped_in (Inside p) = p.skipped

-- the ticket is the client's own, and of its latest attempt
pub record IsOwn (number latest : ℕ) (t : Ticket) : Type 0 where
  pub client : t.client ≡ number
  pub attempt : t.attempt ≡ latest
  pub begun : 1 ≤ latest

-- each of the nodes is one of the list's
abbrev pub AreNodes : List Ballot → List ℕ → Type 0
AreNodes ballots set = (n : ℕ) → has_node set n ≡ true → HasAnyNode ballots n

-- the nodes that granted the ticket have enough votes by the ballot of the attempt's place, for the mode that
-- was asked for
abbrev pub HasEnough : List Ballot → Present → Type 0
HasEnough ballots p = IsEnough (ballot_at ballots p.place) p.ticket.mode (has_node p.granted)

-- the client has chosen this: the ticket is its own, and the list has the place
pub record HasChosen (client : ℕ) (ballots : List Ballot) (attempt : ℕ) (t : Ticket) (place : ℕ) : Type 0 where
  pub own : IsOwn client attempt t
  pub placed : HasPlace ballots place

-- the client asks with this: the ticket is its own, the list has the place, nodes of the list granted it, and
-- it isn't softened
pub record AsksWith (client : ℕ) (ballots : List Ballot) (attempt : ℕ) (p : Present) : Type 0 where
  pub own : IsOwn client attempt p.ticket
  pub placed : HasPlace ballots p.place
  pub nodes : AreNodes ballots p.granted
  pub unsoftened : p.softened ≡ false

-- it is inside with this: the nodes that granted the ticket are enough, and what is softened was a writer's
pub record IsEntered (client : ℕ) (ballots : List Ballot) (attempt : ℕ) (p : Present) : Type 0 where
  pub own : IsOwn client attempt p.ticket
  pub placed : HasPlace ballots p.place
  pub nodes : AreNodes ballots p.granted
  pub enough : HasEnough ballots p
  pub softened : p.softened ≡ true → p.ticket.mode ≡ Write

-- what holds of each client's state
abbrev pub IsLawfulState : ℕ → List Ballot → ℕ → State → Type 0
IsLawfulState client ballots attempt Idle = Unit {0}
IsLawfulState client ballots attempt (Chosen t place) = HasChosen client ballots attempt t place
IsLawfulState client ballots attempt (Asking p) = AsksWith client ballots attempt p
IsLawfulState client ballots attempt (Inside p) = IsEntered client ballots attempt p

-- what holds of each client
pub record IsLawfulClient (c : Client) : Type 0 where
  pub numbered : c.attempt ≤ MAX_ATTEMPT
  pub state : IsLawfulState c.client c.ballots c.attempt c.state

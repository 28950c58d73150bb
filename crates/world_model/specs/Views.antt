-- What is asked of a world: who is inside a resource, and who waits for a node's vote or holds it.
use Rattle.std.specs.Prelude.{ℕ, ◌&&◌, Bool, List, [], ◌∷◌, Option, Some, None, if◌then◌else◌}
use Rattle.std.specs.List.{flat_map}
use Rattle.std.specs.Option.{option_map}
use Rattle.std.specs.Str.{bytes_eq}
use Rattle.lock_messages.specs.declared.tickets.Mode.TheVariants.{Read}
use Rattle.lock_messages.specs.declared.tickets.Ticket.{Ticket}
use Rattle.lock_model.specs.declared.entries.Entry.{Entry}
use Rattle.lock_model.specs.declared.entries.Live.{Live}
use Rattle.lock_model.specs.ExactStations.{is_waiting, holds}
use Rattle.world_model.specs.declared.exact.ExactClient.{ExactClient}
use Rattle.world_model.specs.declared.exact.ExactClientPhase.{ExactClientPhase}
use Rattle.world_model.specs.declared.exact.ExactPresent.{ExactPresent}
use Rattle.world_model.specs.declared.exact.ExactClientPhase.TheVariants as client
use Rattle.world_model.specs.declared.exact.ExactWorld.{ExactWorld}
use Rattle.world_model.specs.ExactWorlds.{numbered}

-- the ticket as a reader's
abbrev pub softened_ticket : Ticket → Ticket
softened_ticket t = record { client = t.client; attempt = t.attempt; mode = Read; resource = t.resource }

-- the ticket of a present attempt: the one that was asked with, and once it is softened that as a reader's
abbrev pub present_ticket : ExactPresent → Ticket
present_ticket p = if p.softened then softened_ticket p.ticket else p.ticket

-- the ticket of a client that is inside
abbrev pub ticket_in : ExactClientPhase → Option Ticket
ticket_in client.Down = None
ticket_in client.Idle = None
ticket_in (client.Chosen t place) = None
ticket_in (client.Asking p) = None
ticket_in (client.Inside p) = Some (present_ticket p)

abbrev pub ticket_at : Option ExactClient → Option Ticket
ticket_at None = None
ticket_at (Some k) = ticket_in k.phase

-- the ticket of the client of this number, if it is inside
abbrev pub ticket_inside : ℕ → ExactWorld → Option Ticket
ticket_inside c w = ticket_at (numbered w.clients c)

-- the ticket, if it is for the resource
abbrev pub ticket_for : List ℕ → Option Ticket → List Ticket
ticket_for x None = []
ticket_for x (Some t) = if bytes_eq t.resource x then t ∷ [] else []

-- the tickets of those inside the resource, in the order of the clients
abbrev pub inside : List ℕ → ExactWorld → List Ticket
inside x w = flat_map (λ k. ticket_for x (ticket_in k.phase)) w.clients

-- the client's live ticket, if it passes the test
abbrev pub live_ticket : (Live → Bool) → ℕ → Option Live → List Ticket
live_ticket test c None = []
live_ticket test c (Some l) = if test l then record { client = c; attempt = l.attempt; mode = l.mode; resource = l.resource } ∷ [] else []

-- the live tickets that pass the test, in the order of the entries
abbrev pub live_tickets : (Live → Bool) → List Entry → List Ticket
live_tickets test entries = flat_map (λ e. live_ticket test e.client e.live) entries

-- the ticket waits for the resource
abbrev pub waits : List ℕ → Live → Bool
waits x l = is_waiting l.status && bytes_eq l.resource x

-- the tickets that wait for the resource in the station that the node has kept, and those that hold it;
-- none at all where there is no such node
abbrev pub waiting : ℕ → List ℕ → ExactWorld → Option (List Ticket)
waiting n x w = option_map (λ v. live_tickets (waits x) v.kept.entries) (numbered w.nodes n)

abbrev pub holding : ℕ → List ℕ → ExactWorld → Option (List Ticket)
holding n x w = option_map (λ v. live_tickets (holds x) v.kept.entries) (numbered w.nodes n)

-- What is asked of a world, beside what the world's own definitions name.
use Rattle.std.specs.Prelude.{◌≡◌, ◌≢◌, ◌↔◌, ℕ, ◌⊎◌, Bool, nat_le, List, length, Option, Some, None, Result, Ok, Err}
use Rattle.std.specs.Option.{option_map}
use Rattle.lock_messages.specs.declared.ids.Actor.{Actor}
use Rattle.lock_messages.specs.declared.ids.Actor.TheVariants as actor
use Rattle.lock_messages.specs.declared.tickets.Mode.{Mode}
use Rattle.lock_messages.specs.declared.tickets.Ticket.{Ticket}
use Rattle.lock_model.specs.declared.entries.Live.{Live}
use Rattle.lock_model.specs.Stations.{Station, Holds, Waits, ticket_at}
use Rattle.lock_model.specs.Decisions.{Among}
use Rattle.lock_model.specs.ExactStations.{holds}
use Rattle.stable_record.specs.Records.{record_bytes, client_record_of}
use Rattle.world_model.specs.declared.events.StepFault.{StepFault}
use Rattle.world_model.specs.declared.events.StepFault.TheVariants as fault
use Rattle.world_model.specs.declared.exact.ExactStation.{ExactStation}
use Rattle.world_model.specs.declared.exact.ExactWorld.{ExactWorld}
pub use Rattle.world_model.specs.Company.{AreInside}
use Rattle.world_model.specs.ExactWorlds.{numbered}
use Rattle.world_model.specs.Views.{waits, waiting, holding}
use Rattle.world_model.specs.Worlds.{World, IsInside}
use Rattle.world_machine.specs.declared.listing.Claims.{Claims}
use Rattle.world_machine.specs.declared.listing.Claims.TheVariants.{Waiting, Holding}

-- the test of these tickets, and the list that it gives
abbrev pub listed_by : Claims → List ℕ → Live → Bool
listed_by Waiting x = waits x
listed_by Holding x = holds x

abbrev pub listed : Claims → ℕ → List ℕ → ExactWorld → Option (List Ticket)
listed Waiting n x w = waiting n x w
listed Holding n x w = holding n x w

-- whether there is such an actor: nodes and clients are numbered from 1
abbrev pub has_actor : ExactWorld → Actor → Bool
has_actor w (actor.Node n) = nat_le n (length w.nodes)
has_actor w (actor.Client c) = nat_le c (length w.clients)

-- the bytes of a station's record
abbrev pub station_bytes : ExactStation → List ℕ
station_bytes s = record_bytes s.problem s.entries

-- the record of what the actor has kept; none where there is no such actor
abbrev pub kept_bytes : Actor → ExactWorld → Option (List ℕ)
kept_bytes (actor.Node n) w = option_map (λ v. station_bytes v.kept) (numbered w.nodes n)
kept_bytes (actor.Client c) w = option_map (λ k. client_record_of k.kept) (numbered w.clients c)

-- The call answered what is there: an unknown actor is refused so, and nothing else but want of memory.
abbrev pub Tells : {A B : Type 0} → (A → B) → Option B → Result A StepFault → Type 0
Tells view there (Ok a) = there ≡ Some (view a)
Tells view there (Err f) = ((f ≡ fault.UnknownActor) × (there ≡ None)) ⊎ ((f ≡ fault.Memory) × (there ≢ None))

-- the client is inside exactly where a ticket was found, and then with that
abbrev pub IsInsideBy : World → ℕ → Option Ticket → Type 0
IsInsideBy w c found = (m : Mode) (x : List ℕ) → IsInside w c m x ↔ ((t : Ticket) × (found ≡ Some t) × (t.mode ≡ m) × (t.resource ≡ x))

-- the list is that of those who wait for the resource in the station, or hold it there, each with its
-- ticket
abbrev pub AreWaiting : Station → List ℕ → List Ticket → Type 0
AreWaiting s x tickets = (t : Ticket) → Among t tickets ↔ (Waits s t.client t.mode x × (t ≡ ticket_at s t.client t.mode x))

abbrev pub AreHolding : Station → List ℕ → List Ticket → Type 0
AreHolding s x tickets = (t : Ticket) → Among t tickets ↔ (Holds s t.client t.mode x × (t ≡ ticket_at s t.client t.mode x))

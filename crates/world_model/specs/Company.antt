-- Who is inside a resource, as lists of tickets tell it, and whether two tickets are together in one.
use Rattle.std.specs.Prelude.{◌≡◌, ◌↔◌, ◌==◌, ◌&&◌, ℕ, Bool, false, not, List, [], ◌∷◌, Option, Some, None}
use Rattle.std.specs.Str.{bytes_eq}
use Rattle.lock_messages.specs.declared.tickets.Mode.{Mode}
use Rattle.lock_messages.specs.declared.tickets.Mode.TheVariants.{Read, Write}
use Rattle.lock_messages.specs.declared.tickets.Ticket.{Ticket}
use Rattle.lock_model.specs.Decisions.{Among}
use Rattle.world_model.specs.declared.exact.ExactWorld.{ExactWorld}
use Rattle.world_model.specs.Forgetting.{forget}
use Rattle.world_model.specs.Views.{inside}
use Rattle.world_model.specs.Worlds.{World, IsInside}

-- the list is that of those inside the resource, each with a ticket of its own
abbrev pub AreInside : World → List ℕ → List Ticket → Type 0
AreInside w x tickets = (c : ℕ) (m : Mode) → IsInside w c m x ↔ ((t : Ticket) × Among t tickets × (t.client ≡ c) × (t.mode ≡ m))

-- a writer among the tickets is the only one
abbrev pub IsAloneIn : List Ticket → Type 0
IsAloneIn tickets = (t : Ticket) → Among t tickets → t.mode ≡ Write → tickets ≡ t ∷ []

-- These are the tickets of those whom the world has inside the resource, in the order of the clients. A writer among
-- them is the only one.
pub record AreThoseInside (w : ExactWorld) (x : List ℕ) (tickets : List Ticket) : Type 0 where
  pub told : tickets ≡ inside x w
  pub inside : AreInside (forget w) x tickets
  pub alone : IsAloneIn tickets

-- two tickets, of two clients, for one resource
abbrev pub are_together : Option Ticket → Option Ticket → Bool
are_together None u = false
are_together (Some t) None = false
are_together (Some t) (Some u) = not (t.client == u.client) && bytes_eq t.resource u.resource

-- a ticket, if there is one, is a reader's
abbrev pub Reads : Option Ticket → Type 0
Reads None = Unit {0}
Reads (Some t) = t.mode ≡ Read

-- What a client has to show of its attempt to whom it tells what it wants.
use Rattle.lock_messages.specs.declared.ids.TheConstants.{MAX_ATTEMPT}
use Rattle.world_model.specs.Worlds.{ClientPhase, ClientDown, ClientIdle, Chosen as ChosenPhase, Asking as AskingPhase, IsIn}
use Rattle.std.specs.Prelude.{not, ◌||◌, nat_lt, ℕ, Bool, false, List, Option, Some, None}
use Rattle.lock_messages.specs.declared.tickets.Ticket.{Ticket}
use Rattle.world_model.specs.declared.exact.ExactClientPhase.{ExactClientPhase}
use Rattle.world_model.specs.declared.exact.ExactClientPhase.TheVariants.{Down, Idle, Chosen, Asking, Inside}
use Rattle.world_model.specs.declared.ways.Want.{Want}
use Rattle.world_model.specs.Advice.{is_wanted}

-- the ticket with which a client asks, and the nodes that granted it
abbrev pub asked_in : ExactClientPhase → Option (Ticket × List ℕ)
asked_in Down = None
asked_in Idle = None
asked_in (Chosen t place) = None
asked_in (Asking p) = Some (p.ticket, p.granted)
asked_in (Inside p) = None

-- an attempt with this ticket, by the ballot of this place, is for what is wanted
abbrev pub is_for : Want → Option Ticket → Option ℕ → Bool
is_for a None place = false
is_for a (Some t) None = false
is_for a (Some t) (Some place) = is_wanted a t place

-- the attempt that the client has chosen is the greatest, and not for what is wanted
abbrev pub must_fall : Want → ClientPhase → Bool
must_fall a ClientDown = false
must_fall a ClientIdle = false
must_fall a (ChosenPhase t place) = not (is_wanted a t place || nat_lt t.attempt MAX_ATTEMPT)
must_fall a (AskingPhase p) = false
must_fall a (IsIn p) = false

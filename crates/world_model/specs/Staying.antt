-- Who is inside stays inside until its own Leave or Fall.
use Rattle.std.specs.Prelude.{◌≡◌, ℕ, ◌⊎◌, Bool, true, false, ◌||◌, List, Option, Some, None}
use Rattle.std.specs.List.{AllByRecursion}
use Rattle.lock_messages.specs.declared.ids.Actor.TheVariants as actor
use Rattle.lock_messages.specs.declared.tickets.Mode.TheVariants.{Write}
use Rattle.lock_messages.specs.declared.tickets.Ticket.{Ticket}
use Rattle.lock_model.specs.Ballots.{Ballot}
use Rattle.world_model.specs.declared.events.Effect.{Effect}
use Rattle.world_model.specs.declared.events.Event.{Event}
use Rattle.world_model.specs.declared.exact.ExactWorld.{ExactWorld}
use Rattle.world_model.specs.ExactWorlds.{actor_of}
use Rattle.world_model.specs.Kinds.{kind_of, is_leaving, is_softening, is_falling}
use Rattle.world_model.specs.Laws.{Takes}
use Rattle.world_model.specs.Locality.{IsHistory, own_events, local_part}
use Rattle.world_model.specs.Parts.{Part, NoPart, NodePart, ClientPart}
use Rattle.world_model.specs.Views.{softened_ticket, ticket_in, ticket_inside}

-- the ticket of an actor that is inside, by its part of the world
abbrev pub inside_ticket : Part → Option Ticket
inside_ticket NoPart = None
inside_ticket (NodePart v) = None
inside_ticket (ClientPart k) = ticket_in k.phase

-- the event is a Leave or a Fall
abbrev pub leaves_or_falls : Event → Bool
leaves_or_falls e = is_leaving (kind_of e) || is_falling (kind_of e)

-- the event is a Soften
abbrev pub is_soften : Event → Bool
is_soften e = is_softening (kind_of e)

-- none of these events is a Soften
abbrev pub HasNoSoften : List (Event × Effect) → Type 0
HasNoSoften own = AllByRecursion (λ p. is_soften p.0 ≡ false) own

-- the second ticket is the first one, or it as a reader's where it was a writer's
abbrev pub IsOrSoftens : Ticket → Ticket → Type 0
IsOrSoftens t u = (u ≡ t) ⊎ ((t.mode ≡ Write) × (u ≡ softened_ticket t))

-- none of these events is a Leave or a Fall
abbrev pub HasNoEnd : List (Event × Effect) → Type 0
HasNoEnd own = AllByRecursion (λ p. leaves_or_falls p.0 ≡ false) own

-- A client's part that is inside with a ticket is inside with the same ticket after any events of its own
-- that have no Leave and no Fall; or with it as a reader's, but only where one of them is a Soften.
abbrev pub PartsStayInside : Type 0
PartsStayInside = (b : List Ballot) (p : Part) (t : Ticket) (own : List (Event × Effect)) → inside_ticket p ≡ Some t → HasNoEnd own →
    (u : Ticket) × (inside_ticket (local_part b p own) ≡ Some u) × IsOrSoftens t u × (HasNoSoften own → u ≡ t)

-- So a client inside a resource is inside it, with the same ticket or with it as a reader's, after every
-- history in which it has no Leave and no Fall of its own, whatever events of others the history has; and
-- without a Soften of its own with the same one.
abbrev pub ClientsStayInside : Type 0
ClientsStayInside = (w v : ExactWorld) (history : List (Event × Effect)) (c : ℕ) (t : Ticket) → IsHistory w history v →
    ticket_inside c w ≡ Some t → HasNoEnd (own_events (actor.Client c) history) →
    (u : Ticket) × (ticket_inside c v ≡ Some u) × IsOrSoftens t u × (HasNoSoften (own_events (actor.Client c) history) → u ≡ t)

-- And its own Leave or Fall ends it: after it the client is inside nothing.
abbrev pub LeavingEndsIt : Type 0
LeavingEndsIt = (w v : ExactWorld) (e : Event) (done : Effect) (c : ℕ) → Takes w e done v →
    actor_of e ≡ actor.Client c → leaves_or_falls e ≡ true → ticket_inside c v ≡ None

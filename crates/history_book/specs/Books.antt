-- What contracts see of a book and of a berth.
use Rattle.std.specs.Prelude.{◌≡◌, ◌≢◌, ◌↔◌, ◌⊎◌, ℕ, ◌+◌, ◌<◌, ◌≤◌, Bool, true, false, IsTrue, List, [], ◌∷◌, ◌++◌, length, Option, Some, None, Err, if◌then◌else◌}
use mathlib.Core.List.{IsPrefix}
use Rattle.berth_seats.specs.declared.views.BookView.{BookView}
use Rattle.berth_seats.specs.Views.{TableId, is_given}
use Rattle.lock_messages.specs.declared.ids.Actor.{Actor}
use Rattle.lock_messages.specs.declared.ids.Actor.TheVariants as actor
use Rattle.lock_messages.specs.declared.tickets.Mode.{Mode}
use Rattle.lock_messages.specs.declared.tickets.Ticket.{Ticket}
use Rattle.world_model.specs.declared.events.Effect.{Effect}
use Rattle.world_model.specs.declared.events.Event.{Event}
use Rattle.world_model.specs.declared.events.StepFault.{StepFault}
use Rattle.world_model.specs.declared.events.StepFault.TheVariants as fault
use Rattle.world_model.specs.declared.exact.ExactWorld.{ExactWorld}
use Rattle.world_model.specs.ExactWorlds.{step}
use Rattle.world_model.specs.Forgetting.{forget, IsSound}
use Rattle.world_model.specs.Kinds.{kind_of, is_entering}
use Rattle.world_model.specs.Laws.{Takes}
use Rattle.world_model.specs.Locality.{own_events, local_part, IsHistory, IsLocalRefusal}
use Rattle.world_model.specs.Parts.{is_own, Part, part, own_refusal}
pub use Rattle.world_model.specs.Company.{are_together, Reads}
pub use Rattle.world_model.specs.Staying.{inside_ticket}
use Rattle.world_model.specs.Worlds.{World, IsInside}
use Rattle.world_machine.specs.Listing.{IsInsideBy}
use Rattle.history_book.specs.declared.books.TheConstants.{MAX_EVENTS}
use Rattle.event_recorders.specs.declared.log_faults.LogFault.{LogFault}
use Rattle.event_recorders.specs.declared.log_faults.LogFault.TheVariants as bf

-- A book: its number, the table that ties its berths, the world that it was opened with, its history, the
-- actors that were given a berth, and the world as it is now.
pub record BookValue : Type 0 where
  pub number : ℕ
  pub table : TableId
  pub opening : ExactWorld
  pub history : List (Event × Effect)
  pub given : List Actor
  pub world : ExactWorld

-- A berth: its book's number and table, its actor, the world that its book was opened with, and the
-- beginning of the history that it has seen.
pub record BerthValue : Type 0 where
  pub number : ℕ
  pub table : TableId
  pub actor : Actor
  pub opening : ExactWorld
  pub seen : List (Event × Effect)

-- the berth's own list: its actor's events, with their effects
abbrev pub own_of : BerthValue → List (Event × Effect)
own_of k = own_events k.actor k.seen

-- the actor's part of the world, as the berth's own list tells it
abbrev pub own_part : BerthValue → Part
own_part k = local_part k.opening.ballots (part k.opening k.actor) (own_of k)

-- What is known of a book and a berth of it: the history is a run from the opening and leaves the book's
-- world; what the berth has seen begins it; the actor's events in it are the berth's own; they agree on
-- the opening; and the actor's part of the book's world is that of the own list.
pub record Known (b : BookValue) (k : BerthValue) : Type 0 where
  pub run : IsHistory b.opening b.history b.world
  pub begins : IsPrefix k.seen b.history
  pub own : own_events k.actor b.history ≡ own_of k
  pub opening : k.opening ≡ b.opening
  pub part : part b.world k.actor ≡ own_part k

-- the berth has seen all of the history
abbrev pub sees : BookValue → BerthValue → BerthValue
sees b k = record { number = k.number; table = k.table; actor = k.actor; opening = k.opening; seen = b.history }

-- the book with one event more, and the world after it
abbrev pub longer : BookValue → Event → Effect → ExactWorld → BookValue
longer b e done v = record { number = b.number; table = b.table; opening = b.opening; history = b.history ++ (e, done) ∷ []; given = b.given; world = v }

-- nothing changed
pub record IsSame (b : BookValue) (k : BerthValue) (b' : BookValue) (k' : BerthValue) : Type 0 where
  pub book : b' ≡ b
  pub berth : k' ≡ k

-- the berth has the book's number, and the event is its actor's
pub record MayLog (b : BookValue) (k : BerthValue) (e : Event) : Type 0 where
  pub number : k.number ≡ b.number
  pub actor : is_own k.actor e ≡ true

-- The event was taken: it may happen in the book's world, this is the step's effect. It joins the
-- history, and nothing else of the book changes but the world; the berth has seen all of the history.
pub record IsLogged (b : BookValue) (k : BerthValue) (e : Event) (done : Effect) (b' : BookValue) (k' : BerthValue) : Type 0 where
  pub may : MayLog b k e
  pub room : length b.history < MAX_EVENTS
  pub known : Known b k
  pub takes : Takes b.world e done b'.world
  pub book : b' ≡ longer b e done b'.world
  pub berth : k' ≡ sees b' k

-- the event can't happen now: 601 to 611 or 614, and not that the list of messages is full or want of memory
abbrev pub IsOfEvent : StepFault → Type 0
IsOfEvent fault.SentListFull = ⊥
IsOfEvent fault.Memory = ⊥
IsOfEvent fault.UnknownActor = Unit {0}
IsOfEvent fault.Down = Unit {0}
IsOfEvent fault.Up = Unit {0}
IsOfEvent fault.WrongPhase = Unit {0}
IsOfEvent fault.NotStored = Unit {0}
IsOfEvent fault.NothingToSay = Unit {0}
IsOfEvent fault.NoSuchMessage = Unit {0}
IsOfEvent fault.NotAddressed = Unit {0}
IsOfEvent fault.NoQuorum = Unit {0}
IsOfEvent fault.AttemptsSpent = Unit {0}
IsOfEvent fault.NothingTried = Unit {0}
IsOfEvent fault.NoSuchPlace = Unit {0}

-- The event is no step, for this reason. It is the one that the berth's own list gives or, where that
-- gives none, the list of messages'. The berth has seen all of the history, and nothing else changed.
pub record IsNoStep (f : StepFault) (b : BookValue) (k : BerthValue) (e : Event) (b' : BookValue) (k' : BerthValue) : Type 0 where
  pub of_event : IsOfEvent f
  pub known : Known b k
  pub refused : step b.world e ≡ Err f
  pub own : IsLocalRefusal e (own_refusal b.opening.ballots e (own_part k)) (Some f)
  pub book : b' ≡ b
  pub berth : k' ≡ sees b k

-- The history has all the events that it may have, or the list of messages of the world that it leaves has
-- no room for what the event says.
abbrev pub IsFull : List (Event × Effect) → ExactWorld → Event → Type 0
IsFull history w e = (length history ≡ MAX_EVENTS) ⊎ (step w e ≡ Err fault.SentListFull)

-- what comes of a fault of the world's step
abbrev pub IsRefusedBy : LogFault → BookValue → BerthValue → Event → BookValue → BerthValue → Type 0
IsRefusedBy bf.OtherBook b k e b' k' = ⊥
IsRefusedBy bf.OtherActor b k e b' k' = ⊥
IsRefusedBy bf.Full b k e b' k' = (step b.world e ≡ Err fault.SentListFull) × Known b k × IsSame b k b' k'
IsRefusedBy bf.Memory b k e b' k' = IsSame b k b' k'
IsRefusedBy (bf.NotAStep f) b k e b' k' = IsNoStep f b k e b' k'

-- why an event was not logged, in the order in which it is asked
abbrev pub IsRefused : LogFault → BookValue → BerthValue → Event → BookValue → BerthValue → Type 0
IsRefused bf.OtherBook b k e b' k' = (k.number ≢ b.number) × IsSame b k b' k'
IsRefused bf.OtherActor b k e b' k' = (k.number ≡ b.number) × (is_own k.actor e ≡ false) × IsSame b k b' k'
IsRefused bf.Full b k e b' k' = MayLog b k e × IsFull b.history b.world e × Known b k × IsSame b k b' k'
IsRefused bf.Memory b k e b' k' = MayLog b k e × (length b.history < MAX_EVENTS) × IsSame b k b' k'
IsRefused (bf.NotAStep f) b k e b' k' = MayLog b k e × (length b.history < MAX_EVENTS) × IsNoStep f b k e b' k'

-- 1 for an Enter, else 0
abbrev pub enters_by : Event → ℕ
enters_by e = if is_entering (kind_of e) then 1 else 0

-- how many Enters a history has
abbrev pub enters : List (Event × Effect) → ℕ
enters [] = 0
enters (p ∷ history) = enters_by p.0 + enters history

-- What holds of each book: the seat knows what the fields have, the history leaves the world, and the
-- world that it was opened with is sound.
pub record IsBook (items : List (Event × Effect)) (actors : List Actor) (count : ℕ) (b : BookView) (w : ExactWorld) : Type 0 where
  pub kept : b.history ≡ items
  pub given : b.given ≡ actors
  pub run : IsHistory b.opening b.history w
  pub entered : count ≡ enters b.history
  pub room : length items ≤ MAX_EVENTS
  pub sound : IsSound b.opening

-- a book as it is opened
pub record IsOpened (n : ℕ) (w : ExactWorld) (b : BookValue) : Type 0 where
  pub number : b.number ≡ n
  pub opening : b.opening ≡ w
  pub world : b.world ≡ w
  pub history : b.history ≡ []
  pub given : b.given ≡ []

-- the book gave the actor its berth, which has seen all of the history
pub record IsGiven (who : Actor) (b : BookValue) (k : BerthValue) (b' : BookValue) : Type 0 where
  pub first : is_given b.given who ≡ false
  pub number : k.number ≡ b.number
  pub table : k.table ≡ b.table
  pub actor : k.actor ≡ who
  pub opening : k.opening ≡ b.opening
  pub seen : k.seen ≡ b.history
  pub own : own_of k ≡ []
  pub book : b' ≡ record { number = b.number; table = b.table; opening = b.opening; history = b.history; given = b.given ++ who ∷ []; world = b.world }

-- a ticket, if there is one, is the actor's own: the actor is the client that it names
abbrev pub IsOwnTicket : Actor → Option Ticket → Type 0
IsOwnTicket who None = Unit {0}
IsOwnTicket who (Some t) = who ≡ actor.Client t.client

-- a ticket was found exactly where the actor is a client that is inside
abbrev pub IsInsideAs : World → Actor → Option Ticket → Type 0
IsInsideAs w (actor.Node n) found = found ≡ None
IsInsideAs w (actor.Client c) found = IsInsideBy w c found

-- the actors are two clients that are inside one resource
pub record AreInsideOneResource (w : World) (a b : Actor) : Type 0 where
  pub first : ℕ
  pub second : ℕ
  pub first_mode : Mode
  pub second_mode : Mode
  pub resource : List ℕ
  pub clients : (a ≡ actor.Client first) × (b ≡ actor.Client second)
  pub two : first ≢ second
  pub inside : IsInside w first first_mode resource × IsInside w second second_mode resource

-- Whether the two berths are of two clients inside one resource is told by the tickets that their own lists
-- leave them, each of which is its actor's own; both have seen the history.
pub record IsMet (answer : Bool) (b : BookValue) (k l k' l' : BerthValue) : Type 0 where
  pub one : Known b k
  pub other : Known b l
  pub met : IsTrue answer ↔ AreInsideOneResource (forget b.world) k.actor l.actor
  pub told : answer ≡ are_together (inside_ticket (own_part k)) (inside_ticket (own_part l))
  pub tickets : IsOwnTicket k.actor (inside_ticket (own_part k)) × IsOwnTicket l.actor (inside_ticket (own_part l))
  pub one_sees : k' ≡ sees b k
  pub other_sees : l' ≡ sees b l

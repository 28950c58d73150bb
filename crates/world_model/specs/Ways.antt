-- Nobody is locked out: whatever has happened, there is a way in for each client that has an attempt left.
--
-- The exclusion theorem says that nothing wrong happens. A service that let nobody in would meet it too. These
-- are the laws by which this one is none: no clock, no fairness, and no claim that anyone does enter.
use Rattle.std.specs.Prelude.{◌≡◌, ◌≢◌, ℕ, ◌<◌, ◌⊎◌, Bool, true, List}
use Rattle.lock_messages.specs.declared.ids.TheConstants.{MAX_ATTEMPT}
use Rattle.lock_messages.specs.declared.ids.Actor.{Actor}
use Rattle.lock_messages.specs.declared.ids.Actor.TheVariants as actor
use Rattle.lock_messages.specs.declared.tickets.Mode.{Mode}
use Rattle.lock_messages.specs.declared.tickets.Mode.TheVariants.{Write}
use Rattle.lock_model.specs.declared.entries.Status.{Status}
use Rattle.lock_model.specs.Ballots.{AllCross, HasAnyNode, HasPlace, IsEnough, ballot_at}
use Rattle.lock_model.specs.Stations.{Has, Station}
use Rattle.lock_model.specs.Decisions.{Among}
use Rattle.world_model.specs.declared.events.Event.{Event}
use Rattle.world_model.specs.declared.events.Event.TheVariants as event
use Rattle.world_model.specs.Worlds.{NodeDown, ClientPhase, ClientDown, ClientIdle, Chosen, Asking, IsIn, Present, present_mode, World, Setting, HasClient, Run, IsLawfulOpening}
use Rattle.world_model.specs.ExactWorlds.{actor_of}
use Rattle.world_model.specs.declared.ways.Want.{Want}
use Rattle.world_model.specs.Advice.{coming}

-- a run from a lawful opening leads to this world
pub record IsReached (s : Setting) (w : World) : Type 0 where
  pub opening : World
  pub events : List Event
  pub lawful : IsLawfulOpening s opening
  pub run : Run s opening events w

-- the client and the place are there
pub record IsPossible (s : Setting) (a : Want) : Type 0 where
  pub client : HasClient s a.client
  pub place : HasPlace s.ballots a.place

-- the client is inside as it wants to be
abbrev pub IsInsideAs : World → Want → Type 0
IsInsideAs w a = (p : Present) × ((w.clients a.client).phase ≡ IsIn p) × (present_mode p ≡ a.mode) × (p.ticket.resource ≡ a.resource) × (p.place ≡ a.place)

-- A way in: a run from here, of events that are all such, that ends with the client inside.
pub record WayIn (s : Setting) (w : World) (a : Want) (IsSuch : Event → Type 0) : Type 0 where
  pub events : List Event
  pub such : (e : Event) → Among e events → IsSuch e
  pub end : World
  pub run : Run s w events end
  pub inside : IsInsideAs end a

-- An event is gentle on all but this client: nobody else begins, softens, hears or enters, no node takes
-- another problem, nobody falls, and of those that are down only who may.
abbrev pub IsGentle : (Actor → Type 0) → ℕ → Event → Type 0
IsGentle MayRise c (event.Begin d m x place) = d ≡ c
IsGentle MayRise c (event.Try who) = Unit {0}
IsGentle MayRise c (event.Kept who) = Unit {0}
IsGentle MayRise c (event.SayTo d n) = Unit {0}
IsGentle MayRise c (event.Say n) = Unit {0}
IsGentle MayRise c (event.Take n k) = Unit {0}
IsGentle MayRise c (event.Hear d k) = d ≡ c
IsGentle MayRise c (event.Enter d) = d ≡ c
IsGentle MayRise c (event.Leave d) = Unit {0}
IsGentle MayRise c (event.Soften d) = ⊥
IsGentle MayRise c (event.Fall who) = ⊥
IsGentle MayRise c (event.Rise who age) = MayRise who
IsGentle MayRise c (event.Switch n p) = ⊥

-- the actor is up
abbrev pub IsUp : World → Actor → Type 0
IsUp w (actor.Node n) = (w.nodes n).phase ≢ NodeDown
IsUp w (actor.Client c) = (w.clients c).phase ≢ ClientDown

-- the actor is one of the setting's
abbrev pub HasActor : Setting → Actor → Type 0
HasActor s (actor.Node n) = HasAnyNode s.ballots n
HasActor s (actor.Client c) = HasClient s c

-- An attempt is left to the client: what it has kept is below the greatest, and what it has chosen is too.
abbrev pub IsChosenBelow : ClientPhase → Type 0
IsChosenBelow ClientDown = Unit {0}
IsChosenBelow ClientIdle = Unit {0}
IsChosenBelow (Chosen t place) = t.attempt < MAX_ATTEMPT
IsChosenBelow (Asking p) = Unit {0}
IsChosenBelow (IsIn p) = Unit {0}

abbrev pub HasKeptBelow : World → ℕ → Type 0
HasKeptBelow w c = (w.clients c).kept < MAX_ATTEMPT

-- A ticket of another client stands in the way at a station: it is for the resource, whether it waits there or
-- holds, and one of the two is a writer's.
abbrev pub StandsInWay : Want → Station → ℕ → Type 0
StandsInWay a s d = (d ≢ a.client) × ((m : Mode) × (status : Status) × ((s.at d).claim ≡ Has m a.resource status) × ((a.mode ≡ Write) ⊎ (m ≡ Write)))

-- A node can be won: it is up, and so is each other client whose ticket stands in the way at its station, or at
-- that which it has decided on.
pub record IsReady (w : World) (a : Want) (n : ℕ) : Type 0 where
  pub up : IsUp w (actor.Node n)
  pub in_way : (d : ℕ) → StandsInWay a (coming (w.nodes n)) d → IsUp w (actor.Client d)

-- 1. Nobody is locked out: from every world that a run from a lawful opening reaches there is a way in.
abbrev pub NobodyIsLockedOut : Type 0
NobodyIsLockedOut = (s : Setting) (w : World) (a : Want) → AllCross s.ballots → IsReached s w → IsPossible s a → HasKeptBelow w a.client → WayIn s w a (λ e. Unit {0})

-- 2. Where all are up nobody has to fall or to rise, and of the others nobody has to begin or to enter: they
-- only go.
abbrev pub OthersOnlyGo : Type 0
OthersOnlyGo = (s : Setting) (w : World) (a : Want) → AllCross s.ballots → IsReached s w → IsPossible s a → HasKeptBelow w a.client → IsChosenBelow (w.clients a.client).phase →
    ((who : Actor) → HasActor s who → IsUp w who) → WayIn s w a (IsGentle (λ who. ⊥) a.client)

-- 3. The dead are not needed: where the nodes that can be won have votes enough, no other actor that is down
-- does anything.
abbrev pub TheDeadAreNotNeeded : Type 0
TheDeadAreNotNeeded = (s : Setting) (w : World) (a : Want) (chosen : ℕ → Bool) → AllCross s.ballots → IsReached s w → IsPossible s a → HasKeptBelow w a.client → IsChosenBelow (w.clients a.client).phase →
    ((n : ℕ) → chosen n ≡ true → IsReady w a n) → IsEnough (ballot_at s.ballots a.place) a.mode chosen →
    WayIn s w a (λ e. IsGentle (λ who. who ≡ actor.Client a.client) a.client e × (IsUp w (actor_of e) ⊎ (actor_of e ≡ actor.Client a.client)))

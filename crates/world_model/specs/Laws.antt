-- What follows from the definitions, as statements; each is proved as the contract of a function of
-- `laws`.
use Rattle.std.specs.Prelude.{◌≡◌, ◌↔◌, ℕ, ◌+◌, ◌<◌, ◌≤◌, ◌⊎◌, true, IsTrue, List, [], ◌∷◌, length, map, replicate, take, Some, None, Ok}
use Rattle.std.specs.List.{AllByRecursion}
use Rattle.lock_messages.specs.declared.tickets.Mode.{Mode}
use Rattle.lock_messages.specs.declared.tickets.Mode.TheVariants.{Write}
use Rattle.lock_messages.specs.declared.tickets.Ticket.{Ticket}
use Rattle.lock_messages.specs.declared.messages.Message.{Message}
use Rattle.lock_messages.specs.Messages.{is_for_node, is_for_client}
use Rattle.lock_model.specs.declared.problems.Problem.{Problem}
use Rattle.lock_model.specs.Ballots.{Ballot, AllCross, node_count}
use Rattle.lock_model.specs.Stations.{Holds, Waits, ticket_at}
use Rattle.lock_model.specs.Decisions.{Among}
use Rattle.lock_model.specs.ExactStations.{holds}
use Rattle.world_model.specs.declared.TheConstants.{MAX_MESSAGES}
use Rattle.world_model.specs.declared.events.Effect.{Effect}
use Rattle.world_model.specs.declared.events.Effect.TheVariants as effect
use Rattle.world_model.specs.declared.events.Event.{Event}
use Rattle.world_model.specs.declared.events.Event.TheVariants as event
use Rattle.world_model.specs.declared.events.StepFault.TheVariants as fault
use Rattle.world_model.specs.declared.exact.ExactStation.{ExactStation}
use Rattle.world_model.specs.declared.exact.ExactWorld.{ExactWorld}
use Rattle.world_model.specs.Worlds.{World, Happens, Run, IsInside, IsLawfulOpening}
use Rattle.world_model.specs.Exclusion.{IsExclusive}
use Rattle.world_model.specs.ExactWorlds.{numbered, step, refusal, ran, next_number}
use Rattle.world_model.specs.Forgetting.{station_of, forget, setting_of, IsSoundStation, IsSound}
use Rattle.world_model.specs.Openings.{resumed, empty_station, stations_within, IsResumable}
use Rattle.world_model.specs.Views.{inside, live_tickets, waits}

-- the event was taken, and led to this world with this effect
abbrev pub Takes : ExactWorld → Event → Effect → ExactWorld → Type 0
Takes w e done v = step w e ≡ Ok (record { world = v; effect = done })

-- A step of the exact world is one that may happen, among the same actors.
abbrev pub ExactStepsAreAllowed : Type 0
ExactStepsAreAllowed = (w v : ExactWorld) (e : Event) (done : Effect) → IsSound w → Takes w e done v →
    Happens (setting_of w) (forget w) e (forget v) × (setting_of v ≡ setting_of w)

-- It leaves a sound world.
abbrev pub StepsKeepSound : Type 0
StepsKeepSound = (w v : ExactWorld) (e : Event) (done : Effect) → IsSound w → Takes w e done v → IsSound v

-- the number that a node or a client names is that of a message for it
abbrev pub NamesItsMessage : ExactWorld → Event → Type 0
NamesItsMessage w (event.Take n k) = (m : Message) × (numbered w.sent k ≡ Some m) × (is_for_node m n ≡ true)
NamesItsMessage w (event.Hear c k) = (m : Message) × (numbered w.sent k ≡ Some m) × (is_for_client m c ≡ true)
NamesItsMessage w (event.Begin c m x place) = Unit {0}
NamesItsMessage w (event.Try who) = Unit {0}
NamesItsMessage w (event.Kept who) = Unit {0}
NamesItsMessage w (event.SayTo c n) = Unit {0}
NamesItsMessage w (event.Say n) = Unit {0}
NamesItsMessage w (event.Enter c) = Unit {0}
NamesItsMessage w (event.Leave c) = Unit {0}
NamesItsMessage w (event.Soften c) = Unit {0}
NamesItsMessage w (event.Fall who) = Unit {0}
NamesItsMessage w (event.Rise who age) = Unit {0}
NamesItsMessage w (event.Switch n p) = Unit {0}

-- The other way round: what may happen is taken, or refused because the list of messages is full.
abbrev pub AllowedStepsAreTaken : Type 0
AllowedStepsAreTaken = (w : ExactWorld) (e : Event) (u : World) → IsSound w → Happens (setting_of w) (forget w) e u → NamesItsMessage w e →
    (refusal w e ≡ None) ⊎ (refusal w e ≡ Some fault.SentListFull)

-- the events that a run took are a run of the world, and leave a sound world
pub record IsAllowedRun (w : ExactWorld) (events : List Event) : Type 0 where
  pub run : Run (setting_of w) (forget w) (take (ran events w).taken events) (forget (ran events w).world)
  pub setting : setting_of (ran events w).world ≡ setting_of w
  pub sound : IsSound (ran events w).world

abbrev pub ExactRunsAreRuns : Type 0
ExactRunsAreRuns = (w : ExactWorld) (events : List Event) → IsSound w → IsAllowedRun w events

-- A world that is resumed is sound, and a lawful opening.
abbrev pub ResumedIsSound : Type 0
ResumedIsSound = (b : List Ballot) (stations : List ExactStation) (attempts : List ℕ) → IsResumable b stations attempts → IsSound (resumed b stations attempts)

abbrev pub ResumedIsLawful : Type 0
ResumedIsLawful = (b : List Ballot) (stations : List ExactStation) (attempts : List ℕ) → IsResumable b stations attempts →
    IsLawfulOpening (setting_of (resumed b stations attempts)) (forget (resumed b stations attempts))

-- And in a lawful opening of sound stations no floor or live attempt is above its client's attempt.
abbrev pub OnlyWithinIsLawful : Type 0
OnlyWithinIsLawful = (b : List Ballot) (stations : List ExactStation) (attempts : List ℕ) → AllByRecursion IsSoundStation stations →
    IsLawfulOpening (setting_of (resumed b stations attempts)) (forget (resumed b stations attempts)) → IsTrue (stations_within attempts stations)

-- A world in which nothing is kept can be opened under each list of ballots that cross.
abbrev pub OpeningIsResumable : Type 0
OpeningIsResumable = (b : List Ballot) (problems : List Problem) (clients : ℕ) → AllCross b → length problems ≡ node_count b →
    IsResumable b (map empty_station problems) (replicate clients 0)

-- what was said has numbers that messages can have, from the next one on
abbrev pub IsNumbered : ExactWorld → Effect → Type 0
IsNumbered w (effect.Sent k m) = (k ≡ next_number w) × (k ≤ MAX_MESSAGES)
IsNumbered w (effect.Said first count) = (first ≡ next_number w) × (0 < count → first + count ≤ MAX_MESSAGES + 1)
IsNumbered w (effect.Chose a) = Unit {0}
IsNumbered w effect.Tried = Unit {0}
IsNumbered w effect.Kept = Unit {0}
IsNumbered w (effect.Took m changed) = Unit {0}
IsNumbered w (effect.Heard m heard) = Unit {0}
IsNumbered w effect.Inside = Unit {0}
IsNumbered w effect.Outside = Unit {0}
IsNumbered w effect.Softened = Unit {0}
IsNumbered w effect.Down = Unit {0}
IsNumbered w effect.Up = Unit {0}
IsNumbered w (effect.Switched changed) = Unit {0}

-- the messages that are said have numbers that messages can have
abbrev pub SaidFits : Effect → Type 0
SaidFits (effect.Said first count) = 0 < count → first + count ≤ MAX_MESSAGES + 1
SaidFits (effect.Chose a) = Unit {0}
SaidFits effect.Tried = Unit {0}
SaidFits effect.Kept = Unit {0}
SaidFits (effect.Sent k m) = Unit {0}
SaidFits (effect.Took m changed) = Unit {0}
SaidFits (effect.Heard m heard) = Unit {0}
SaidFits effect.Inside = Unit {0}
SaidFits effect.Outside = Unit {0}
SaidFits effect.Softened = Unit {0}
SaidFits effect.Down = Unit {0}
SaidFits effect.Up = Unit {0}
SaidFits (effect.Switched changed) = Unit {0}

abbrev pub SaidNumbersFit : Type 0
SaidNumbersFit = (w v : ExactWorld) (e : Event) (done : Effect) → Takes w e done v → IsNumbered w done × SaidFits done

-- In a sound world a writer is alone inside, and no reader waits without a cause.
abbrev pub SoundIsExclusive : Type 0
SoundIsExclusive = (w : ExactWorld) → IsSound w → IsExclusive (forget w)

-- The list of those inside is the set of them, and a writer in it is its only member.
abbrev pub InsideIsTheSet : Type 0
InsideIsTheSet = (w : ExactWorld) → IsSound w → (x : List ℕ) (c : ℕ) (m : Mode) →
    IsInside (forget w) c m x ↔ ((t : Ticket) × Among t (inside x w) × (t.client ≡ c) × (t.mode ≡ m))

abbrev pub WriterInsideIsOnly : Type 0
WriterInsideIsOnly = (w : ExactWorld) → IsSound w → (x : List ℕ) (t : Ticket) → Among t (inside x w) → t.mode ≡ Write → inside x w ≡ t ∷ []

-- The lists of those that wait and of those that hold are the sets of them, each with its ticket.
abbrev pub WaitingIsTheSet : Type 0
WaitingIsTheSet = (s : ExactStation) → IsSoundStation s → (x : List ℕ) (t : Ticket) →
    Among t (live_tickets (waits x) s.entries) ↔ (Waits (station_of s) t.client t.mode x × (t ≡ ticket_at (station_of s) t.client t.mode x))

abbrev pub HoldingIsTheSet : Type 0
HoldingIsTheSet = (s : ExactStation) → IsSoundStation s → (x : List ℕ) (t : Ticket) →
    Among t (live_tickets (holds x) s.entries) ↔ (Holds (station_of s) t.client t.mode x × (t ≡ ticket_at (station_of s) t.client t.mode x))

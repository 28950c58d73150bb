-- Locality: an actor's part of the world is told by the actor's own events with their effects, and what
-- is refused to it, but for the list of messages and for want of memory, by that part.
use Rattle.std.specs.Prelude.{◌≡◌, ◌≢◌, ℕ, ◌+◌, ◌<◌, ◌⊎◌, Bool, true, List, [], ◌∷◌, ◌++◌, length, filter, map, Option, Some, None}
use Rattle.lock_messages.specs.declared.ids.Actor.{Actor}
use Rattle.lock_messages.specs.declared.messages.Message.{Message}
use Rattle.lock_messages.specs.Messages.{is_for_node, is_for_client}
use Rattle.lock_model.specs.declared.hearing.Heard.{Heard}
use Rattle.lock_model.specs.Ballots.{Ballot}
use Rattle.world_model.specs.declared.events.Effect.{Effect}
use Rattle.world_model.specs.declared.events.Effect.TheVariants as effect
use Rattle.world_model.specs.declared.events.Event.{Event}
use Rattle.world_model.specs.declared.events.Event.TheVariants as event
use Rattle.world_model.specs.declared.TheConstants.{MAX_MESSAGES}
use Rattle.world_model.specs.declared.events.StepFault.{StepFault}
use Rattle.world_model.specs.declared.events.StepFault.TheVariants as fault
use Rattle.world_model.specs.declared.exact.ExactWorld.{ExactWorld}
use Rattle.world_model.specs.ExactWorlds.{numbered, actor_of, refusal}
use Rattle.world_model.specs.Worlds.{Run}
use Rattle.world_model.specs.Forgetting.{forget, setting_of, IsSound}
use Rattle.world_model.specs.Laws.{Takes}
use Rattle.world_model.specs.Parts.{place, is_own, Part, part, own_refusal, is_own_fault, IsListFault, message_of, after_own, said_by}

-- no two actors have one number
abbrev pub PlacesAreApart : Type 0
PlacesAreApart = (a b : Actor) → place a ≡ place b → a ≡ b

-- A step changes just the part of the event's actor, to what the event with its effect makes of it, and
-- the list of messages by what was said.
pub record ChangesOne (w : ExactWorld) (e : Event) (done : Effect) (v : ExactWorld) : Type 0 where
  pub setting : setting_of v ≡ setting_of w
  pub own : part v (actor_of e) ≡ after_own w.ballots e done (part w (actor_of e))
  pub others : (who : Actor) → who ≢ actor_of e → part v who ≡ part w who
  pub sent : v.sent ≡ w.sent ++ said_by w.ballots e (part w (actor_of e))

abbrev pub StepsChangeOnePart : Type 0
StepsChangeOnePart = (w v : ExactWorld) (e : Event) (done : Effect) → Takes w e done v → ChangesOne w e done v

-- The refusal is cut in two. What the actor's own part refuses is refused so.
abbrev pub OwnRefusalsComeFirst : Type 0
OwnRefusalsComeFirst = (w : ExactWorld) (e : Event) (f : StepFault) → own_refusal w.ballots e (part w (actor_of e)) ≡ Some f →
    (refusal w e ≡ Some f) × (is_own_fault f ≡ true)

-- What it doesn't refuse only the list of messages can: a number that a Take or a Hear names, or the
-- length of what a Say or a SayTo says.
abbrev pub ListRefusalsComeSecond : Type 0
ListRefusalsComeSecond = (w : ExactWorld) (e : Event) → own_refusal w.ballots e (part w (actor_of e)) ≡ None →
    (refusal w e ≡ None) ⊎ ((f : StepFault) × (refusal w e ≡ Some f) × IsListFault e f)

-- The list of messages is full only where it can't hold what is said.
abbrev pub FullOnlyWithoutRoom : Type 0
FullOnlyWithoutRoom = (w : ExactWorld) (e : Event) → refusal w e ≡ Some fault.SentListFull →
    MAX_MESSAGES < length w.sent + length (said_by w.ballots e (part w (actor_of e)))

-- No step is refused for want of memory: that is the code's alone.
abbrev pub MemoryIsNoRefusal : Type 0
MemoryIsNoRefusal = (w : ExactWorld) (e : Event) → refusal w e ≢ Some fault.Memory

-- of which kind the effect of each event is
abbrev pub IsEffectOf : Event → Effect → Type 0
IsEffectOf (event.Begin c m x place) done = (a : ℕ) × (done ≡ effect.Chose a)
IsEffectOf (event.Try who) done = done ≡ effect.Tried
IsEffectOf (event.Kept who) done = done ≡ effect.Kept
IsEffectOf (event.SayTo c n) done = (k : ℕ) × (m : Message) × (done ≡ effect.Sent k m)
IsEffectOf (event.Say n) done = (first count : ℕ) × (done ≡ effect.Said first count)
IsEffectOf (event.Take n k) done = (m : Message) × (changed : Bool) × (is_for_node m n ≡ true) × (done ≡ effect.Took m changed)
IsEffectOf (event.Hear c k) done = (m : Message) × (heard : Heard) × (is_for_client m c ≡ true) × (done ≡ effect.Heard m heard)
IsEffectOf (event.Enter c) done = done ≡ effect.Inside
IsEffectOf (event.Leave c) done = done ≡ effect.Outside
IsEffectOf (event.Soften c) done = done ≡ effect.Softened
IsEffectOf (event.Fall who) done = done ≡ effect.Down
IsEffectOf (event.Rise who age) done = done ≡ effect.Up
IsEffectOf (event.Switch n p) done = (changed : Bool) × (done ≡ effect.Switched changed)

abbrev pub EffectsAreOfTheirEvents : Type 0
EffectsAreOfTheirEvents = (w v : ExactWorld) (e : Event) (done : Effect) → Takes w e done v → IsEffectOf e done

-- the message that was taken or heard is the one that was sent under the number
abbrev pub IsAsListed : ExactWorld → Event → Effect → Type 0
IsAsListed w (event.Take n k) done = message_of done ≡ numbered w.sent k
IsAsListed w (event.Hear c k) done = message_of done ≡ numbered w.sent k
IsAsListed w (event.Begin c m x place) done = Unit {0}
IsAsListed w (event.Try who) done = Unit {0}
IsAsListed w (event.Kept who) done = Unit {0}
IsAsListed w (event.SayTo c n) done = Unit {0}
IsAsListed w (event.Say n) done = Unit {0}
IsAsListed w (event.Enter c) done = Unit {0}
IsAsListed w (event.Leave c) done = Unit {0}
IsAsListed w (event.Soften c) done = Unit {0}
IsAsListed w (event.Fall who) done = Unit {0}
IsAsListed w (event.Rise who age) done = Unit {0}
IsAsListed w (event.Switch n p) done = Unit {0}

abbrev pub MessagesAreAsListed : Type 0
MessagesAreAsListed = (w v : ExactWorld) (e : Event) (done : Effect) → Takes w e done v → IsAsListed w e done

-- A history: events with their effects, each taken where it stands.
abbrev pub IsHistory : ExactWorld → List (Event × Effect) → ExactWorld → Type 0
IsHistory w [] v = v ≡ w
IsHistory w (p ∷ history) v = (u : ExactWorld) × Takes w p.0 p.1 u × IsHistory u history v

-- the actor's own events of a history, each with its effect
abbrev pub own_events : Actor → List (Event × Effect) → List (Event × Effect)
own_events who history = filter (λ p. is_own who p.0) history

-- an actor's part after a list of its own events with their effects
abbrev pub local_part : List Ballot → Part → List (Event × Effect) → Part
local_part b p [] = p
local_part b p (q ∷ own) = local_part b (after_own b q.0 q.1 p) own

-- After every history each actor's part of the world is what the actor's own events with their effects
-- make of its part in the opening.
abbrev pub PartsAreLocal : Type 0
PartsAreLocal = (w v : ExactWorld) (history : List (Event × Effect)) → IsHistory w history v →
    (who : Actor) → part v who ≡ local_part w.ballots (part w who) (own_events who history)

-- what the actor's own part says of a refusal: it is this one, or at most one of the list of messages
abbrev pub IsLocalRefusal : Event → Option StepFault → Option StepFault → Type 0
IsLocalRefusal e (Some f) refused = (refused ≡ Some f) × (is_own_fault f ≡ true)
IsLocalRefusal e None refused = (refused ≡ None) ⊎ ((f : StepFault) × (refused ≡ Some f) × IsListFault e f)

-- Then whether an event of the actor is refused, and by which number, is told by that part, but for the
-- refusals that the list of messages has.
abbrev pub RefusalsAreLocal : Type 0
RefusalsAreLocal = (w v : ExactWorld) (history : List (Event × Effect)) → IsHistory w history v →
    (e : Event) → IsLocalRefusal e (own_refusal w.ballots e (local_part w.ballots (part w (actor_of e)) (own_events (actor_of e) history))) (refusal v e)

-- a history is a run of its events
pub record IsRunOf (w : ExactWorld) (history : List (Event × Effect)) (v : ExactWorld) : Type 0 where
  pub run : Run (setting_of w) (forget w) (map (λ p. p.0) history) (forget v)
  pub setting : setting_of v ≡ setting_of w
  pub sound : IsSound v

abbrev pub HistoriesAreRuns : Type 0
HistoriesAreRuns = (w v : ExactWorld) (history : List (Event × Effect)) → IsSound w → IsHistory w history v → IsRunOf w history v

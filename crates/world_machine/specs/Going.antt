-- What going ahead on a copy of a world has done: w is the world before and v the one after, `old` and `new` are the
-- events so far.
use Rattle.std.specs.Prelude.{◌≡◌, ℕ, ◌<◌, ◌&&◌, ◌↔◌, IsTrue, nat_le, Bool, ◌⊎◌, List, [], ◌∷◌, ◌++◌, Option, None, Some, Ok}
use Rattle.lock_messages.specs.declared.ids.TheConstants.{MAX_ATTEMPT}
use Rattle.lock_messages.specs.declared.ids.Actor.{Actor}
use Rattle.lock_messages.specs.declared.ids.Actor.TheVariants as actor
use Rattle.lock_model.specs.Ballots.{IsEnough, ballot_at}
use Rattle.lock_model.specs.Decisions.{Among}
use Rattle.world_model.specs.declared.events.Age.TheVariants.{Old}
use Rattle.world_model.specs.declared.events.Event.{Event}
use Rattle.world_model.specs.declared.events.Event.TheVariants as event
use Rattle.world_model.specs.declared.exact.ExactNode.{ExactNode}
use Rattle.world_model.specs.declared.exact.ExactNodePhase.TheVariants as node
use Rattle.world_model.specs.declared.exact.ExactClient.{ExactClient}
use Rattle.world_model.specs.declared.exact.ExactClientPhase.TheVariants as client
use Rattle.world_model.specs.declared.exact.ExactWorld.{ExactWorld}
use Rattle.world_model.specs.declared.ways.Move.{Move}
use Rattle.world_model.specs.declared.ways.Want.{Want}
use Rattle.world_actors.specs.Acting.{ActingClient}
use Rattle.world_machine.specs.declared.ways.Need.{Need}
use Rattle.world_machine.specs.declared.ways.Need.TheVariants.{Nothing, Rise, FallAndRise}
use Rattle.world_model.specs.Worlds.{Client}
use Rattle.world_model.specs.ExactWorlds.{numbered, Stepped, step}
use Rattle.world_model.specs.Forgetting.{client_of, forget, setting_of}
use Rattle.world_model.specs.Advice.{can_be_won, next_move}
use Rattle.world_model.specs.Ways.{IsUp, HasActor, IsChosenBelow}
use Rattle.world_model.specs.ExactWays.{HasBegun, Moved, HasRun, Follows, AreRises, IsOwnOrGentle}

-- it took this event
abbrev pub HasTaken : ExactWorld → List Event → Event → ExactWorld → List Event → Type 0
HasTaken w old e v new = (t : Stepped) × (step w e ≡ Ok t) × (v ≡ t.world) × (new ≡ old ++ e ∷ [])

-- it took these
abbrev pub HasTakenAll : ExactWorld → List Event → List Event → ExactWorld → List Event → Type 0
HasTakenAll w old events v new = HasRun w events v × (new ≡ old ++ events)

-- it made this move
abbrev pub HasMade : Want → ExactWorld → List Event → Move → ExactWorld → List Event → Type 0
HasMade a w old mv v new = (added : List Event) × Moved a w mv added v × (new ≡ old ++ added)

-- it made the next moves until there was none
abbrev pub HasArrived : (ℕ → Bool) → Want → ExactWorld → List Event → ExactWorld → List Event → Type 0
HasArrived chosen a w old v new = (es : List Event) × Follows chosen a w es v × (next_move (setting_of v) chosen a (forget v) ≡ None) × (new ≡ old ++ es)

-- some actors rose with what they had kept, and nothing else happened; then these are up
abbrev pub HasRaised : ExactWorld → List Event → ExactWorld → List Event → (Actor → Type 0) → Type 0
HasRaised w old v new IsRaised = (es : List Event) × HasRun w es v × AreRises es × (new ≡ old ++ es) × ((who : Actor) → IsRaised who → HasActor (setting_of w) who → IsUp (forget v) who)

-- The events are gentle where the nodes that can be won have votes enough, and what the client has chosen is
-- below the greatest attempt.
abbrev pub IsGentleWay : ExactWorld → Want → List Event → Type 0
IsGentleWay w a events =
    IsEnough (ballot_at w.ballots a.place) a.mode (can_be_won (setting_of w) a (forget w)) → IsChosenBelow ((forget w).clients a.client).phase → (e : Event) → Among e events → IsOwnOrGentle w a e

-- an actor is a node, or a client
abbrev pub IsNodeActor : Actor → Type 0
IsNodeActor who = (n : ℕ) × (who ≡ actor.Node n)

abbrev pub IsClientActor : Actor → Type 0
IsClientActor who = (c : ℕ) × (who ≡ actor.Client c)

-- a client falls and rises
abbrev pub falling_and_rising : ℕ → List Event
falling_and_rising c = event.Fall (actor.Client c) ∷ event.Rise (actor.Client c) Old ∷ []

-- the events that a client needs before it can begin
abbrev pub needed_events : Want → Need → List Event
needed_events a Nothing = []
needed_events a Rise = event.Rise (actor.Client a.client) Old ∷ []
needed_events a FallAndRise = falling_and_rising a.client

-- the actor is there, and down
abbrev pub IsDownThere : ExactWorld → Actor → Type 0
IsDownThere w (actor.Node n) = (v : ExactNode) × (numbered w.nodes n ≡ Some v) × (v.phase ≡ node.Down)
IsDownThere w (actor.Client c) = (k : ExactClient) × (numbered w.clients c ≡ Some k) × (k.phase ≡ client.Down)

-- n is one of so many
abbrev pub is_one_of : ℕ → ℕ → Bool
is_one_of count n = nat_le 1 n && nat_le n count

-- the client has an attempt left
abbrev pub HasAttemptOf : Want → Client → Type 0
HasAttemptOf a k = (k.kept < MAX_ATTEMPT) ⊎ HasBegun a k.phase

-- whether it has, where there is such a client
abbrev pub AttemptIs : Want → Option ActingClient → Option Bool → Type 0
AttemptIs a None r = r ≡ None
AttemptIs a (Some k) r = (b : Bool) × (r ≡ Some b) × (IsTrue b ↔ HasAttemptOf a (client_of k.part))

-- An actor's own log, and what it means that the actor's record finds what the actor has kept.
use Rattle.std.specs.Prelude.{◌≡◌, ◌⊎◌, ℕ, Bool, true, List, [], ◌∷◌, ◌++◌, ◌||◌, Option, Some, None}
use Rattle.std.specs.Option.{option_map}
use Rattle.lock_messages.specs.declared.ids.Actor.{Actor}
use Rattle.lock_messages.specs.declared.ids.Actor.TheVariants as actor
use Rattle.lock_model.specs.Ballots.{Ballot}
use Rattle.lock_model.specs.Decisions.{Among}
use Rattle.stable_record.specs.Records.{client_record_of, record_bytes}
use Rattle.world_model.specs.declared.events.Effect.{Effect}
use Rattle.world_model.specs.declared.events.Event.{Event}
use Rattle.world_model.specs.declared.events.StepFault.{StepFault}
use Rattle.world_model.specs.declared.events.StepFault.TheVariants as fault
use Rattle.world_model.specs.declared.exact.ExactNodePhase.TheVariants as node
use Rattle.world_model.specs.declared.exact.ExactClientPhase.TheVariants as client
use Rattle.world_model.specs.Kinds.{kind_of, is_keeping, is_reading, is_rising}
use Rattle.world_model.specs.Locality.{local_part, IsEffectOf}
use Rattle.world_model.specs.Parts.{Part, NoPart, NodePart, ClientPart, after_own}
use Rattle.event_recorders.specs.declared.log_faults.LogFault.{LogFault}
use Rattle.event_recorders.specs.declared.log_faults.LogFault.TheVariants as book

-- An actor's own log: the actor; the ballots, and the actor's part of the world, as the log was opened;
-- and the actor's events since then, each with its effect.
pub record OwnLog : Type 0 where
  pub actor : Actor
  pub ballots : List Ballot
  pub opening : Part
  pub events : List (Event × Effect)

-- the actor's part of the world, as its own events tell it
abbrev pub part_now : OwnLog → Part
part_now l = local_part l.ballots l.opening l.events

-- the log with one event more
abbrev pub adds : OwnLog → Event → Effect → OwnLog
adds l e done = record { actor = l.actor; ballots = l.ballots; opening = l.opening; events = l.events ++ (e, done) ∷ [] }

-- What events come to, one after the other, from a part of the actor on: each to what it comes to in the part before it.
abbrev pub all_of : {X : Type 0} → (List Ballot → Event → Effect → Part → List X) → List Ballot → Part → List (Event × Effect) → List X
all_of each b p [] = []
all_of each b p (q ∷ own) = each b q.0 q.1 p ++ all_of each b (after_own b q.0 q.1 p) own

-- the same of all events of a log
abbrev pub in_log : {X : Type 0} → (List Ballot → Event → Effect → Part → List X) → OwnLog → List X
in_log each l = all_of each l.ballots l.opening l.events

-- The event joined the log: its effect is of its kind, nothing else of the log changed, and the actor's
-- part is what the event makes of it.
pub record IsAdded (l : OwnLog) (e : Event) (done : Effect) (l' : OwnLog) : Type 0 where
  pub kind : IsEffectOf e done
  pub log : l' ≡ adds l e done
  pub part : part_now l' ≡ after_own l.ballots e done (part_now l)

-- What a restart may find: just what is kept or, while something is tried, nothing but what is kept and
-- what is tried.
abbrev pub FindsKept : List ℕ → Option (List ℕ) → List (List ℕ) → Type 0
FindsKept kept None strings = strings ≡ kept ∷ []
FindsKept kept (Some tried) strings = (found : List ℕ) → Among found strings → (found ≡ kept) ⊎ (found ≡ tried)

-- the record of what an actor has kept, and of what it is trying to keep
abbrev pub kept_in : Part → List ℕ
kept_in NoPart = []
kept_in (NodePart v) = record_bytes v.kept.problem v.kept.entries
kept_in (ClientPart k) = client_record_of k.kept

abbrev pub tried_in : Part → Option (List ℕ)
tried_in NoPart = None
tried_in (NodePart v) = option_map (λ s. record_bytes s.problem s.entries) v.tried
tried_in (ClientPart k) = option_map client_record_of k.tried

-- a restart may find this of the actor's record
abbrev pub FindsPart : Part → List (List ℕ) → Type 0
FindsPart p strings = FindsKept (kept_in p) (tried_in p) strings

-- A restart finds nothing but what the actor has kept and, where it tries to keep something, that: so the actor may
-- rise with whatever is found. This is weaker than the above only where nothing is tried: then two copies of what is
-- kept may be found, as after a reopening that failed.
pub record FindsItsOwn (p : Part) (strings : List (List ℕ)) : Type 0 where
  pub only : (found : List ℕ) → Among found strings → (found ≡ kept_in p) ⊎ (tried_in p ≡ Some found)

-- a restart may find what the actor has kept once the event has happened, whatever it does
abbrev pub FindsAfter : OwnLog → Event → List (List ℕ) → Type 0
FindsAfter l e strings = (done : Effect) → IsEffectOf e done → FindsPart (after_own l.ballots e done (part_now l)) strings

-- the events that read a message
abbrev pub reads : Event → Bool
reads e = is_reading (kind_of e)

-- no message of the number was sent, or it is for another actor
abbrev pub IsUnread : Event → StepFault → Type 0
IsUnread e f = (reads e ≡ true) × ((f ≡ fault.NoSuchMessage) ⊎ (f ≡ fault.NotAddressed))

-- why a recorder may refuse an event that its own log allows
abbrev pub IsRecorderFault : Event → LogFault → Type 0
IsRecorderFault e (book.NotAStep f) = IsUnread e f
IsRecorderFault e book.Full = Unit {0}
IsRecorderFault e book.Memory = Unit {0}
IsRecorderFault e book.OtherActor = ⊥
IsRecorderFault e book.OtherBook = Unit {0}

-- the actor is there and down, with nothing tried
abbrev pub IsDownAtRest : Actor → Part → Type 0
IsDownAtRest (actor.Node n) (NodePart v) = (v.phase ≡ node.Down) × (v.tried ≡ None)
IsDownAtRest (actor.Client c) (ClientPart k) = (k.phase ≡ client.Down) × (k.tried ≡ None)
IsDownAtRest (actor.Node n) (ClientPart k) = ⊥
IsDownAtRest (actor.Node n) NoPart = ⊥
IsDownAtRest (actor.Client c) (NodePart v) = ⊥
IsDownAtRest (actor.Client c) NoPart = ⊥

-- the log of an actor that has logged nothing, and is down with nothing tried
pub record IsUnused (l : OwnLog) (who : Actor) : Type 0 where
  pub actor : l.actor ≡ who
  pub events : l.events ≡ []
  pub down : IsDownAtRest who l.opening

-- the events that change what an actor keeps or tries to keep
abbrev pub changes_record : Event → Bool
changes_record e = is_keeping (kind_of e) || is_rising (kind_of e)

-- Why an actor refuses a line, and what it means that nobody said what a line reads.
use Rattle.std.specs.Prelude.{◌≡◌, ◌≢◌, ◌⊎◌, ℕ, true, false, List, [], ◌∷◌, Some, None}
use Rattle.lock_messages.specs.declared.ids.Actor.{Actor}
use Rattle.lock_messages.specs.declared.ids.Actor.TheVariants as actor
use Rattle.lock_messages.specs.declared.messages.Message.{Message}
use Rattle.lock_messages.specs.Frames.{frame_of}
use Rattle.lock_model.specs.Ballots.{Ballot}
use Rattle.lock_model.specs.Decisions.{Among}
use Rattle.world_model.specs.declared.events.Age.TheVariants.{New}
use Rattle.world_model.specs.declared.events.Effect.{Effect}
use Rattle.world_model.specs.declared.events.Event.{Event}
use Rattle.world_model.specs.declared.events.Event.TheVariants as event
use Rattle.world_model.specs.declared.events.StepFault.{StepFault}
use Rattle.world_model.specs.declared.events.StepFault.TheVariants as step
use Rattle.world_model.specs.declared.exact.ExactWorld.{ExactWorld}
use Rattle.world_model.specs.Kinds.{kind_of, is_reading}
use Rattle.world_model.specs.Locality.{IsHistory}
use Rattle.world_model.specs.Parts.{Part, is_own, own_refusal}
use Rattle.merge_model.specs.Lives.{kept_record, tried_record}
use Rattle.own_journals.specs.declared.lines.OwnLine.{OwnLine}
use Rattle.own_journals.specs.declared.lines.OwnLine.TheVariants as own
use Rattle.line_merger.specs.declared.offers.Refusal.{Refusal}
use Rattle.line_merger.specs.declared.offers.Refusal.TheVariants as refusal

-- the event by which an actor reads the message of a number
abbrev pub reading_by : Actor → ℕ → Event
reading_by (actor.Node n) k = event.Take n k
reading_by (actor.Client c) k = event.Hear c k

-- The actor, with this part of the world, reads no message now, by this refusal. Or it reads some, and the one that it is
-- given is addressed to another actor. The number of the message says nothing of it.
abbrev pub RefusesToRead : List Ballot → Actor → Part → StepFault → Type 0
RefusesToRead b who p f = (k : ℕ) × ((own_refusal b (reading_by who k) p ≡ Some f) ⊎ ((own_refusal b (reading_by who k) p ≡ None) × (f ≡ step.NotAddressed)))

-- The actor is there, and what was found is neither the record that it has kept nor the one that it tried to keep.
pub record HasOtherRecord (who : Actor) (p : Part) (found : List ℕ) : Type 0 where
  pub there : kept_record who p ≢ None
  pub kept : kept_record who p ≢ Some found
  pub tried : tried_record who p ≢ Some found

-- Why no life of the actor begins with what was found, by a refusal: there is no such actor, or it has another record and
-- tried to keep none.
abbrev pub RefusesLife : Actor → Part → List ℕ → StepFault → Type 0
RefusesLife who p found f = ((f ≡ step.UnknownActor) × (kept_record who p ≡ None)) ⊎ ((f ≡ step.NothingTried) × HasOtherRecord who p found)

-- This is why an actor, with this part of the world, refuses the line: the part itself refuses the event by this number, or the
-- line is another actor's, or the record that was found is neither the kept nor the tried one.
abbrev pub IsReason : List Ballot → Actor → Part → OwnLine → Refusal → Type 0
IsReason b who p (own.Does e) (refusal.Step f) = own_refusal b e p ≡ Some f
IsReason b who p (own.Does e) refusal.OtherActor = (is_own who e ≡ false) ⊎ (is_reading (kind_of e) ≡ true)
IsReason b who p (own.Does e) refusal.OtherRecord = ⊥
IsReason b who p (own.Reads whose frame) (refusal.Step f) = RefusesToRead b who p f
IsReason b who p (own.Reads whose frame) refusal.OtherActor = ⊥
IsReason b who p (own.Reads whose frame) refusal.OtherRecord = ⊥
IsReason b who p (own.Life whose found) (refusal.Step f) = RefusesLife who p found f
IsReason b who p (own.Life whose found) refusal.OtherActor = whose ≢ who
IsReason b who p (own.Life whose found) refusal.OtherRecord = HasOtherRecord who p found

-- The line reads a message, and no message with its frame was said.
abbrev pub IsUnsaid : List Message → OwnLine → Type 0
IsUnsaid sent (own.Does e) = ⊥
IsUnsaid sent (own.Reads whose frame) = (m : Message) → Among m sent → frame_of m ≡ frame → ⊥
IsUnsaid sent (own.Life whose found) = ⊥

-- nothing but falls and rises of the actor with what it tried to keep
abbrev pub AreAttempt : Actor → List (Event × Effect) → Type 0
AreAttempt who [] = Unit {0}
AreAttempt who (q ∷ more) = ((q.0 ≡ event.Fall who) ⊎ (q.0 ≡ event.Rise who New)) × AreAttempt who more

-- A line that is refused changes its actor by an attempt at most, and says nothing.
pub record IsAttempted (who : Actor) (w v : ExactWorld) : Type 0 where
  pub events : List (Event × Effect)
  pub attempt : AreAttempt who events
  pub history : IsHistory w events v
  pub sent : v.sent ≡ w.sent

-- What has to be known of an actor's turn in an event, so that all laws of steps follow: what it
-- refuses, that it is a case of what may happen, that it leaves the actor sound, and of which kind the
-- effect is.
use Rattle.std.proofs.Common.{◌≡◌, ℕ, Bool, true, false, cond, List, [], Some, Ok, Err, refl}
use Rattle.lock_messages.specs.declared.messages.Message.{Message}
use Rattle.lock_model.specs.Decisions.{Among}
use Rattle.world_model.specs.declared.events.Effect.{Effect}
use Rattle.world_model.specs.declared.events.Event.{Event}
use Rattle.world_model.specs.declared.events.StepFault.TheVariants as fault
use Rattle.world_model.specs.declared.exact.ExactWorld.{ExactWorld}
use Rattle.world_model.specs.Worlds.{World, Setting, Happens}
use Rattle.world_model.specs.Turns.{Turn, Acts, Speaks, Reads, Turns}
use Rattle.world_model.specs.ExactWorlds.{numbered, has_room, next_number}
use Rattle.world_model.specs.Parts.{is_own_fault, IsListFault, message_of}
use Rattle.world_model.specs.Laws.{IsNumbered}
use Rattle.world_model.specs.Locality.{IsEffectOf, IsAsListed}

-- An actor of the type A: how a change of it alone is seen in a world, and when it is sound.
pub record Kind (A : Type 0) : Type 1 where
  pub Changes : World → A → A → List Message → World → Type 0
  pub Sound : A → Type 0

pub record ActsTold (A : Type 0) (q : Kind A) (s : Setting) (e : Event) (before after : A) (done : Effect) : Type 0 where
  pub happens : q.Sound before → (w v : World) → q.Changes w before after [] v → Happens s w e v
  pub sound : q.Sound before → q.Sound after
  pub kind : IsEffectOf e done
  pub numbers : (w : ExactWorld) → IsNumbered w done
  pub listed : (w : ExactWorld) → IsAsListed w e done

pub record SpeaksTold (A : Type 0) (q : Kind A) (s : Setting) (e : Event) (before after : A) (says : List Message) (effect : ℕ → Effect) : Type 0 where
  pub happens : q.Sound before → (w v : World) → q.Changes w before after says v → Happens s w e v
  pub sound : q.Sound before → q.Sound after
  pub kind : (first : ℕ) → IsEffectOf e (effect first)
  pub numbers : (w : ExactWorld) → has_room w says ≡ true → IsNumbered w (effect (next_number w))
  pub listed : (w : ExactWorld) (first : ℕ) → IsAsListed w e (effect first)
  pub full : IsListFault e fault.SentListFull

pub record ReadsTold (A : Type 0) (q : Kind A) (s : Setting) (e : Event) (before : A) (number : ℕ) (is_mine : Message → Bool) (after : Message → A) (effect : Message → Effect) : Type 0 where
  pub happens : (m : Message) → is_mine m ≡ true → q.Sound before → (w v : World) → Among m w.sent → q.Changes w before (after m) [] v → Happens s w e v
  pub sound : (m : Message) → is_mine m ≡ true → q.Sound before → q.Sound (after m)
  pub kind : (m : Message) → is_mine m ≡ true → IsEffectOf e (effect m)
  pub numbers : (w : ExactWorld) (m : Message) → IsNumbered w (effect m)
  pub listed : (w : ExactWorld) (m : Message) → numbered w.sent number ≡ Some m → IsAsListed w e (effect m)
  pub carries : (m : Message) → message_of (effect m) ≡ Some m
  pub no_such : IsListFault e fault.NoSuchMessage
  pub not_mine : IsListFault e fault.NotAddressed

abbrev pub TurnTold : (A : Type 0) → Kind A → Setting → Event → A → Turn A → Type 0
TurnTold A q s e before (Acts after done) = ActsTold A q s e before after done
TurnTold A q s e before (Speaks after says effect) = SpeaksTold A q s e before after says effect
TurnTold A q s e before (Reads number is_mine after effect) = ReadsTold A q s e before number is_mine after effect

abbrev pub Told : (A : Type 0) → Kind A → Setting → Event → A → Turns A → Type 0
Told A q s e before (Err f) = is_own_fault f ≡ true
Told A q s e before (Ok t) = TurnTold A q s e before t

-- by a test
pub told-if : (A : Type 0) (q : Kind A) (s : Setting) (e : Event) (before : A) (b : Bool) (x y : Turns A) →
    (b ≡ true → Told A q s e before x) → (b ≡ false → Told A q s e before y) → Told A q s e before (cond b x y)
told-if A q s e before true x y f g = f refl
told-if A q s e before false x y f g = g refl
